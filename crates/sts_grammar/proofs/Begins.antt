-- What an expression begins and ends with, and why no expression in parentheses begins like an arrow.
use Rattle.std.proofs.Common.{◌≡◌, ℕ, zero, suc, ◌+◌, ◌-◌, ◌<◌, ◌≤◌, List, [], ◌∷◌, refl, sym, ap, ◌∙◌, subst, arith, inl, inr}
use Rattle.std.specs.Prelude.{ℤ, Bool, true, false, ◌||◌, Option, Some, None, is_some, if◌then◌else◌}
use Rattle.std.proofs.lemmas.Bool.{false≢true, false_from_ne_true}
use Rattle.sts_lexer.specs.declared.marks.Mark.{Mark}
use Rattle.sts_lexer.specs.declared.marks.Mark.TheVariants as m
use Rattle.sts_lexer.specs.declared.words.Word.{Word}
use Rattle.sts_lexer.specs.declared.words.Word.TheVariants as w
use Rattle.sts_lexer.specs.declared.token.TokenKind.{TokenKind}
use Rattle.sts_lexer.specs.declared.token.TokenKind.TheVariants as k
use Rattle.sts_syntax.specs.Annotations.{Annotation}
use Rattle.sts_syntax.specs.Trees.{Parameter, Tree, Num, Text, Truth, Null, This, Name, Unary, Binary, Both, Either, Choice, Set, Bump, Member, Item, Call, SuperCall, Make, Items, Handler, Trees, none, more, Statements, done, also, Routine, Does}
use Rattle.sts_grammar.specs.Source.{Source, kind, broken, IsMark, IsWord, IsName, IsMemberName}
use Rattle.sts_grammar.specs.Operators.{infix_level, prefix_number, bump_by}
use Rattle.sts_grammar.specs.Headings.{HasType, HasResult, MoreParameters, AreParameters}
use Rattle.sts_grammar.specs.Ends.{is_bump, kind_binds, mark_binds, binds}
use Rattle.sts_grammar.specs.Operands.{Stands, level, IsWrapped, IsOperand}
use Rattle.sts_grammar.specs.Spells.{IsBare, AreListed, AreFurther, IsHandler, InBlock}
use Rattle.sts_grammar.specs.ReadHeadings.{begins_arrow}
use Rattle.sts_grammar.proofs.Tokens.{never}
use Rattle.sts_grammar.proofs.SoundHeadings.{IsHeading, begins_arrow_ok}
use Rattle.sts_grammar.proofs.Operators.{infix_max, infix_min, binds_operator}
use Rattle.sts_grammar.proofs.Levels.{assignment_binds, bump_binds}

-- 1. The first token.

abbrev pub begins_mark : Mark → Bool
begins_mark m.OpenParenthesis = true
begins_mark m.OpenBracket = true
begins_mark mark = is_some (prefix_number mark) || is_some (bump_by mark)

abbrev pub begins_word : Word → Bool
begins_word w.True = true
begins_word w.False = true
begins_word w.Null = true
begins_word w.This = true
begins_word w.New = true
begins_word w.Super = true
begins_word w.Function = true
begins_word word = false

-- an expression may begin with such a token
abbrev pub begins : TokenKind → Bool
begins (k.Num value) = true
begins (k.Text text) = true
begins (k.Name name) = true
begins (k.Word word entry) = begins_word word
begins (k.Mark mark) = begins_mark mark
begins k.Finish = false

prefix_begins : (mark : Mark) (op : ℕ) → prefix_number mark ≡ Some op → begins_mark mark ≡ true
prefix_begins m.OpenParenthesis op h = refl
prefix_begins m.OpenBracket op h = refl
prefix_begins mark op h = ap (λ x. is_some x || is_some (bump_by mark)) h

bump_begins : (mark : Mark) (by : ℤ) → bump_by mark ≡ Some by → begins_mark mark ≡ true
bump_begins m.PlusPlus by h = refl
bump_begins m.MinusMinus by h = refl
bump_begins mark by h = never by h

pub wrapped_begins : (s : Source) (p : ℕ) (P : Stands) → ((i j : ℕ) → P i j → begins (kind s i) ≡ true) → (i j : ℕ) → IsWrapped s p P i j → begins (kind s i) ≡ true
wrapped_begins s zero P ok i j h = ok i j h
wrapped_begins s (suc p) P ok i j h = ap begins h.1

handler_begins : (s : Source) (handler : Routine) (i j : ℕ) → IsHandler s handler i j → begins (kind s i) ≡ true
handler_begins s (Does at params gives all true) i j h = ap begins h.1.3
handler_begins s (Does at params gives all false) i j h = ap begins h.1.1

pub bare_begins : (s : Source) (e : Tree) (i j : ℕ) → IsBare s e i j → begins (kind s i) ≡ true
bare_begins s (Num at value) i j h = ap begins h.1
bare_begins s (Text at text) i j h = ap begins h.1
bare_begins s (Truth at true) i j h = ap begins h.1.1
bare_begins s (Truth at false) i j h = ap begins h.1.1
bare_begins s (Null at) i j h = ap begins h.1.1
bare_begins s (This at) i j h = ap begins h.1.1
bare_begins s (Name at name) i j h = ap begins h.1
bare_begins s (Unary at op a) i j h = ap begins h.2 ∙ prefix_begins h.0 op h.3
bare_begins s (Binary at op a b) i j h = wrapped_begins s h.3.0 (IsBare s a) (bare_begins s a) i h.0 h.3.1
bare_begins s (Both at a b) i j h = wrapped_begins s h.2.0 (IsBare s a) (bare_begins s a) i h.0 h.2.1
bare_begins s (Either at a b) i j h = wrapped_begins s h.2.0 (IsBare s a) (bare_begins s a) i h.0 h.2.1
bare_begins s (Choice at c a b) i j h = wrapped_begins s h.3.0 (IsBare s c) (bare_begins s c) i h.0 h.3.1
bare_begins s (Set at op x a) i j h = wrapped_begins s h.4.0 (IsBare s x) (bare_begins s x) i h.0 h.4.1
bare_begins s (Bump at x by false) i j h = ap begins h.2 ∙ bump_begins h.0 by h.3
bare_begins s (Bump at x by true) i j h = wrapped_begins s h.4.0 (IsBare s x) (bare_begins s x) i h.0 h.4.1
bare_begins s (Member at a name) i j h = wrapped_begins s h.2.0 (IsBare s a) (bare_begins s a) i h.0 h.2.1
bare_begins s (Item at a b) i j h = wrapped_begins s h.3.0 (IsBare s a) (bare_begins s a) i h.0 h.3.1
bare_begins s (Call at a args) i j h = wrapped_begins s h.2.0 (IsBare s a) (bare_begins s a) i h.0 h.2.1
bare_begins s (SuperCall at None args) i j h = ap begins h.1.1
bare_begins s (SuperCall at (Some method) args) i j h = ap begins h.1.1
bare_begins s (Make at class args) i j h = ap begins h.1.1
bare_begins s (Items at items) i j h = ap begins h.1
bare_begins s (Handler at handler) i j h = handler_begins s handler i j h.1

pub operand_begins : (s : Source) (l : ℕ) (e : Tree) (i j : ℕ) → IsOperand s l e (IsBare s e) i j → begins (kind s i) ≡ true
operand_begins s l e i j h = wrapped_begins s h.0 (IsBare s e) (bare_begins s e) i j h.1

-- 2. The last token of what stands before `.`, `[` and `(` is no `++` or `--`.

last : (s : Source) (i j : ℕ) (t : TokenKind) → kind s i ≡ t → is_bump t ≡ false → j ≡ i + 1 → is_bump (kind s (j - 1)) ≡ false
last s i j t h b e = let same : j - 1 ≡ i = omega arith in ap (λ x. is_bump (kind s x)) same ∙ ap is_bump h ∙ b

further_last : (s : Source) (all : Trees) (close : Mark) (i j : ℕ) → is_bump (k.Mark close) ≡ false → AreFurther s all close i j → is_bump (kind s (j - 1)) ≡ false
further_last s none close i j b h = last s i j (k.Mark close) h.0 b h.1
further_last s (more a rest) close i j b h = further_last s rest close h.0 j b h.3

listed_last : (s : Source) (all : Trees) (close : Mark) (i j : ℕ) → is_bump (k.Mark close) ≡ false → AreListed s all close i j → is_bump (kind s (j - 1)) ≡ false
listed_last s none close i j b h = last s i j (k.Mark close) h.0 b h.1
listed_last s (more a rest) close i j b h = further_last s rest close h.0 j b h.2

block_last : (s : Source) (f l : Bool) (all : Statements) (i j : ℕ) → InBlock s f l all i j → is_bump (kind s (j - 1)) ≡ false
block_last s f l done i j h = last s i j (k.Mark m.CloseBrace) h.0 refl h.1
block_last s f l (also a rest) i j h = block_last s f l rest h.0 j h.2

handler_last : (s : Source) (handler : Routine) (i j : ℕ) → IsHandler s handler i j → is_bump (kind s (j - 1)) ≡ false
handler_last s (Does at params gives all true) i j h = block_last s true false all (h.1.2 + 1) j h.1.8
handler_last s (Does at params gives all false) i j h = block_last s true false all (h.2.2 + 1) j h.2.8

member_last : (s : Source) (i j name : ℕ) → IsMemberName s i name → j ≡ i + 1 → is_bump (kind s (j - 1)) ≡ false
member_last s i j name (inl h) e = last s i j (k.Name name) h refl e
member_last s i j name (inr h) e = last s i j (k.Word h.0 name) h.1 refl e

bare_last : (s : Source) (e : Tree) (i j : ℕ) → IsBare s e i j → 14 ≤ level e → is_bump (kind s (j - 1)) ≡ false
bare_last s (Num at value) i j h le = last s i j _ h.1 refl h.2
bare_last s (Text at text) i j h le = last s i j _ h.1 refl h.2
bare_last s (Truth at true) i j h le = last s i j _ h.1.1 refl h.2
bare_last s (Truth at false) i j h le = last s i j _ h.1.1 refl h.2
bare_last s (Null at) i j h le = last s i j _ h.1.1 refl h.2
bare_last s (This at) i j h le = last s i j _ h.1.1 refl h.2
bare_last s (Name at name) i j h le = last s i j _ h.1 refl h.2
bare_last s (Unary at op a) i j h le = absurd (omega arith)
bare_last s (Binary at op a b) i j h le =
    let top : infix_level op ≤ 11 = infix_max h.1 op h.5 in absurd (omega arith)
bare_last s (Both at a b) i j h le = absurd (omega arith)
bare_last s (Either at a b) i j h le = absurd (omega arith)
bare_last s (Choice at c a b) i j h le = absurd (omega arith)
bare_last s (Set at op x a) i j h le = absurd (omega arith)
bare_last s (Bump at x by false) i j h le = absurd (omega arith)
bare_last s (Bump at x by true) i j h le = absurd (omega arith)
bare_last s (Member at a name) i j h le = member_last s (h.0 + 1) j name h.4 (omega (arith, h.5))
bare_last s (Item at a b) i j h le = last s h.1 j _ h.6 refl h.7
bare_last s (Call at a args) i j h le = listed_last s args m.CloseParenthesis (h.0 + 1) j refl h.4
bare_last s (SuperCall at None args) i j h le = listed_last s args m.CloseParenthesis (i + 2) j refl h.3
bare_last s (SuperCall at (Some method) args) i j h le = listed_last s args m.CloseParenthesis (i + 4) j refl h.5
bare_last s (Make at class args) i j h le = listed_last s args m.CloseParenthesis (i + 3) j refl h.4
bare_last s (Items at items) i j h le = listed_last s items m.CloseBracket (i + 1) j refl h.2
bare_last s (Handler at handler) i j h le = handler_last s handler i j h.1

wrapped_last : (s : Source) (p : ℕ) (e : Tree) (i j : ℕ) → IsWrapped s p (IsBare s e) i j → (p ≡ 0 → 14 ≤ level e) → is_bump (kind s (j - 1)) ≡ false
wrapped_last s zero e i j h le = bare_last s e i j h (le refl)
wrapped_last s (suc p) e i j h le = last s h.0 j _ h.3 refl h.4

pub operand_last : (s : Source) (e : Tree) (i j : ℕ) → IsOperand s 14 e (IsBare s e) i j → is_bump (kind s (j - 1)) ≡ false
operand_last s e i j h = wrapped_last s h.0 e i j h.1 h.2

-- how tightly a mark binds that stands there
pub binds_mark : (s : Source) (n : ℕ) (mark : Mark) → IsMark s n mark → binds s n ≡ mark_binds (kind s (n - 1)) (broken s n) mark
binds_mark s n mark h = ap (kind_binds (kind s (n - 1)) (broken s n)) h

pub binds_dot : (s : Source) (n : ℕ) → IsMark s n m.Dot → is_bump (kind s (n - 1)) ≡ false → binds s n ≡ 14
binds_dot s n h b = binds_mark s n m.Dot h ∙ ap (λ x. if x then 0 else 14) b

pub binds_bracket : (s : Source) (n : ℕ) → IsMark s n m.OpenBracket → is_bump (kind s (n - 1)) ≡ false → binds s n ≡ 14
binds_bracket s n h b = binds_mark s n m.OpenBracket h ∙ ap (λ x. if x then 0 else 14) b

pub binds_parenthesis : (s : Source) (n : ℕ) → IsMark s n m.OpenParenthesis → is_bump (kind s (n - 1)) ≡ false → binds s n ≡ 14
binds_parenthesis s n h b = binds_mark s n m.OpenParenthesis h ∙ ap (λ x. if x then 0 else 14) b

pub binds_bump : (s : Source) (n : ℕ) (mark : Mark) (by : ℤ) → IsMark s n mark → bump_by mark ≡ Some by → broken s n ≡ false → binds s n ≡ 13
binds_bump s n mark by h b u =
    binds_mark s n mark h ∙ ap (λ x. mark_binds (kind s (n - 1)) x mark) u ∙ bump_binds (kind s (n - 1)) mark by b

-- 3. An expression that begins with a name, where nothing goes on with it, is that name.

bound : (s : Source) (i n : ℕ) (b : ℕ) → n ≡ i + 1 → binds s (i + 1) ≡ 0 → binds s n ≡ b → 1 ≤ b → ⊥
bound s i n b e z h le = let same : binds s n ≡ 0 = ap (binds s) e ∙ z in omega arith

lone_wrapped : (s : Source) (p : ℕ) (P : Stands) (i x : ℕ) → IsName s i x → ((j : ℕ) → P i j → j ≡ i + 1) → (j : ℕ) → IsWrapped s p P i j → j ≡ i + 1
lone_wrapped s zero P i x n ok j h = ok j h
lone_wrapped s (suc p) P i x n ok j h = absurd (let e : k.Name x ≡ k.Mark m.OpenParenthesis = sym n ∙ h.1 in cc)

not_mark : {P : Type 0} (s : Source) (i x : ℕ) (mark : Mark) → IsName s i x → IsMark s i mark → P
not_mark s i x mark n h = absurd (let e : k.Name x ≡ k.Mark mark = sym n ∙ h in cc)

not_word : {P : Type 0} (s : Source) (i x : ℕ) (word : Word) → IsName s i x → IsWord s i word → P
not_word s i x word n h = absurd (let e : k.Name x ≡ k.Word word h.0 = sym n ∙ h.1 in cc)

lone : (s : Source) (e : Tree) (i x : ℕ) → IsName s i x → binds s (i + 1) ≡ 0 → (j : ℕ) → IsBare s e i j → j ≡ i + 1
lone s (Num at value) i x n z j h = h.2
lone s (Text at text) i x n z j h = h.2
lone s (Truth at true) i x n z j h = h.2
lone s (Truth at false) i x n z j h = h.2
lone s (Null at) i x n z j h = h.2
lone s (This at) i x n z j h = h.2
lone s (Name at name) i x n z j h = h.2
lone s (Unary at op a) i x n z j h = not_mark s i x h.0 n h.2
lone s (Binary at op a b) i x n z j h =
    let e : h.0 ≡ i + 1 = lone_wrapped s h.3.0 (IsBare s a) i x n (lone s a i x n z) h.0 h.3.1 in
    let low : 3 < infix_level op = infix_min h.1 op h.5 in
    absurd (bound s i h.0 (infix_level op) e z (binds_mark s h.0 h.1 h.4 ∙ binds_operator (kind s (h.0 - 1)) (broken s h.0) h.1 op h.5) (omega arith))
lone s (Both at a b) i x n z j h =
    let e : h.0 ≡ i + 1 = lone_wrapped s h.2.0 (IsBare s a) i x n (lone s a i x n z) h.0 h.2.1 in
    absurd (bound s i h.0 3 e z (binds_mark s h.0 m.AmpersandAmpersand h.3) (omega arith))
lone s (Either at a b) i x n z j h =
    let e : h.0 ≡ i + 1 = lone_wrapped s h.2.0 (IsBare s a) i x n (lone s a i x n z) h.0 h.2.1 in
    absurd (bound s i h.0 2 e z (binds_mark s h.0 m.BarBar h.3) (omega arith))
lone s (Choice at c a b) i x n z j h =
    let e : h.0 ≡ i + 1 = lone_wrapped s h.3.0 (IsBare s c) i x n (lone s c i x n z) h.0 h.3.1 in
    absurd (bound s i h.0 1 e z (binds_mark s h.0 m.Question h.4) (omega arith))
lone s (Set at op y a) i x n z j h =
    let e : h.0 ≡ i + 1 = lone_wrapped s h.4.0 (IsBare s y) i x n (lone s y i x n z) h.0 h.4.1 in
    absurd (bound s i h.0 1 e z (binds_mark s h.0 h.1 h.5 ∙ assignment_binds (kind s (h.0 - 1)) (broken s h.0) h.1 op h.6) (omega arith))
lone s (Bump at y by false) i x n z j h = not_mark s i x h.0 n h.2
lone s (Bump at y by true) i x n z j h =
    let e : h.0 ≡ i + 1 = lone_wrapped s h.4.0 (IsBare s y) i x n (lone s y i x n z) h.0 h.4.1 in
    absurd (bound s i h.0 13 e z (binds_bump s h.0 h.1 by h.5 h.6 h.7) (omega arith))
lone s (Member at a name) i x n z j h =
    let e : h.0 ≡ i + 1 = lone_wrapped s h.2.0 (IsBare s a) i x n (lone s a i x n z) h.0 h.2.1 in
    absurd (bound s i h.0 14 e z (binds_dot s h.0 h.3 (operand_last s a i h.0 h.2)) (omega arith))
lone s (Item at a b) i x n z j h =
    let e : h.0 ≡ i + 1 = lone_wrapped s h.3.0 (IsBare s a) i x n (lone s a i x n z) h.0 h.3.1 in
    absurd (bound s i h.0 14 e z (binds_bracket s h.0 h.4 (operand_last s a i h.0 h.3)) (omega arith))
lone s (Call at a args) i x n z j h =
    let e : h.0 ≡ i + 1 = lone_wrapped s h.2.0 (IsBare s a) i x n (lone s a i x n z) h.0 h.2.1 in
    absurd (bound s i h.0 14 e z (binds_parenthesis s h.0 h.3 (operand_last s a i h.0 h.2)) (omega arith))
lone s (SuperCall at None args) i x n z j h = not_word s i x w.Super n h.1
lone s (SuperCall at (Some method) args) i x n z j h = not_word s i x w.Super n h.1
lone s (Make at class args) i x n z j h = not_word s i x w.New n h.1
lone s (Items at items) i x n z j h = not_mark s i x m.OpenBracket n h.1
lone s (Handler at (Does at' params gives all true)) i x n z j h = not_mark s i x m.OpenParenthesis n h.1.1.3
lone s (Handler at (Does at' params gives all false)) i x n z j h = not_word s i x w.Function n h.1.1

-- 4. No arrow begins where an expression in parentheses does.

type_or_more_binds : (s : Source) (shape : Option Annotation) (rest : List Parameter) (i k n : ℕ) → HasType s shape i k → MoreParameters s rest k n → binds s i ≡ 0
type_or_more_binds s (Some a) rest i k n h r = binds_mark s i m.Colon h.0
type_or_more_binds s None [] i k n h r = ap (binds s) h ∙ binds_mark s k m.CloseParenthesis r.0
type_or_more_binds s None (p ∷ rest) i k n h r = ap (binds s) h ∙ binds_mark s k m.Comma r.1

-- `)` behind the first name is the end of all of them
only_one : (s : Source) (shape : Option Annotation) (rest : List Parameter) (i o n : ℕ) → HasType s shape i o → MoreParameters s rest o n → IsMark s i m.CloseParenthesis → n ≡ i + 1
only_one s (Some a) rest i o n h r c = absurd (let e : k.Mark m.Colon ≡ k.Mark m.CloseParenthesis = sym h.0 ∙ c in cc)
only_one s None [] i o n h r c = omega (arith, h, r.1)
only_one s None (p ∷ rest) i o n h r c =
    absurd (let e : k.Mark m.Comma ≡ k.Mark m.CloseParenthesis = sym r.1 ∙ ap (kind s) (sym h) ∙ c in cc)

-- inside of the parentheses
no_arrow_inside : (s : Source) (p : ℕ) (e : Tree) (i n : ℕ) (params : List Parameter) (end : ℕ) → IsWrapped s p (IsBare s e) i n → IsMark s n m.CloseParenthesis → AreParameters s params i end → end ≡ n + 1
no_arrow_inside s p e i n [] end h c ps =
    absurd (false≢true (sym (ap begins ps.0) ∙ wrapped_begins s p (IsBare s e) (bare_begins s e) i n h))
no_arrow_inside s p e i n (x ∷ rest) end h c ps =
    let binds_nothing : binds s (i + 1) ≡ 0 = type_or_more_binds s x.shape rest (i + 1) ps.0 end ps.1.2 ps.2 in
    let there : n ≡ i + 1 = lone_wrapped s p (IsBare s e) i x.name ps.1.1 (lone s e i x.name ps.1.1 binds_nothing) n h in
    let closed : IsMark s (i + 1) m.CloseParenthesis = ap (kind s) (sym there) ∙ c in
    only_one s x.shape rest (i + 1) ps.0 end ps.1.2 ps.2 closed ∙ ap (λ z. z + 1) (sym there)

-- the parameters of an arrow don't begin where an expression in parentheses does
pub no_arrow : (s : Source) (p : ℕ) (e : Tree) (i j : ℕ) → IsWrapped s (suc p) (IsBare s e) i j → begins_arrow s i ≡ false
no_arrow s p e i j h =
    false_from_ne_true (begins_arrow s i) (λ b.
    let a = begins_arrow_ok s i b in
    let heading : IsHeading s a.0 a.1 i a.2 = a.3 in
    let there : heading.0 ≡ h.0 + 1 = no_arrow_inside s p e (i + 1) h.0 a.0 heading.0 h.2 h.3 heading.2 in
    let same : heading.0 ≡ j = there ∙ sym h.4 in
    h.5 (a.1, a.2, subst (λ z. HasResult s a.1 z a.2) same heading.3, a.4))
