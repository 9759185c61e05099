-- Ends of statements and declared names that are read are spelled, where the initialisers are.
use Rattle.std.proofs.Common.{◌≡◌, ℕ, zero, suc, ◌+◌, ◌-◌, ◌<◌, ◌≤◌, refl, sym, ap, ◌∙◌, subst, arith, inl, inr, ltb-false}
use Rattle.std.specs.Prelude.{Bool, true, false, ◌||◌, nat_lt, if◌then◌else◌, Option, Some, None, length}
use Rattle.std.proofs.lemmas.Bool.{false≢true}
use Rattle.std.proofs.lemmas.Option.{slice_get_past}
use Rattle.sts_lexer.specs.declared.marks.Mark.TheVariants as m
use Rattle.sts_lexer.specs.declared.token.TokenKind.{TokenKind}
use Rattle.sts_lexer.specs.declared.token.TokenKind.TheVariants as k
use Rattle.sts_syntax.specs.Annotations.{Annotation}
use Rattle.sts_syntax.specs.Trees.{Tree, OptionalTree, absent, present, Declaration, Declare, Declarations, ended, next}
use Rattle.sts_syntax.specs.Nesting.{nesting, optional_nesting, declaration_nesting, deepest_declaration}
use Rattle.sts_grammar.specs.Source.{Source, kind, kind_of, broken, place, is_mark}
use Rattle.sts_grammar.specs.Operands.{IsOperand}
use Rattle.sts_grammar.specs.Ends.{kind_binds, binds, continues, declaration_continues, declarations_continue, may_end, Ends}
use Rattle.sts_grammar.specs.Spells.{IsBare, AreDeclared, IsDeclared, IsInitialised}
use Rattle.sts_grammar.specs.Found.{Found, ◌>>=◌, when, name_of}
use Rattle.sts_grammar.specs.ReadHeadings.{read_optional_type}
use Rattle.sts_grammar.specs.ReadExpressions.{binds_before}
use Rattle.sts_grammar.specs.ReadStatements.{put_declaration, read_end, read_initialiser, read_declaration, declarations_rest, read_declarations, read_let}
use Rattle.sts_grammar.proofs.Tokens.{bind_ok, when_ok, some_is, moved, both_are, never, name_is, mark_is}
use Rattle.sts_grammar.proofs.SoundHeadings.{optional_type_ok}

-- 1. Ends.

-- where nothing before the end of the tokens goes on with an expression, nothing does
pub nothing_binds : (s : Source) (j : ℕ) → binds_before s (length s.tokens) j < 1 → binds s j ≡ 0
nothing_binds s j h =
    let by : (b : Bool) → nat_lt j (length s.tokens) ≡ b → (if b then binds s j else 0) < 1 → binds s j ≡ 0 =
    λ b. elim b as (λ b. nat_lt j (length s.tokens) ≡ b → (if b then binds s j else 0) < 1 → binds s j ≡ 0) [
      | true ↦ λ q h. omega arith
      | false ↦ λ q h. ap (kind_binds (kind s (j - 1)) (broken s j)) (ap kind_of (slice_get_past s.tokens j (ltb-false j (length s.tokens) q)))
    ] in
    by (nat_lt j (length s.tokens)) refl h

pub nothing_continues : (s : Source) (j : ℕ) → binds s j ≡ 0 → continues s j ≡ false
nothing_continues s j h = ap (nat_lt 0) h

end_by : (s : Source) (i : ℕ) (b : Bool) → is_mark m.Semicolon (kind s i) ≡ b → (j : ℕ) → (if b then Some (i + 1) else when (may_end (kind s i) (broken s i) false) (Some i)) ≡ Some j → Ends s false i j
end_by s i true q j h = inl (mark_is m.Semicolon (kind s i) q, sym (some_is (i + 1) j h))
end_by s i false q j h =
    let c = when_ok (may_end (kind s i) (broken s i) false) (Some i) j h in
    inr (c.0, sym (some_is i j c.1))

-- the end of a statement that the token at i doesn't go on with
pub end_ok : (s : Source) (goes_on : Bool) → goes_on ≡ false → (i j : ℕ) → read_end s i ≡ Some j → Ends s goes_on i j
unfolding read_end
end_ok s goes_on g i j h = subst (λ (b : Bool). Ends s b i j) (sym g) (end_by s i (is_mark m.Semicolon (kind s i)) refl j h)

new_line_ends : (t : TokenKind) → is_mark m.Semicolon t ≡ false → may_end t true false ≡ true
new_line_ends (k.Mark m.Semicolon) h = absurd (false≢true (sym h))
new_line_ends (k.Mark m.CloseBrace) h = refl
new_line_ends k.Finish h = refl
new_line_ends _ h = refl

-- where a statement doesn't end, no new line begins
pub no_end : (s : Source) (i : ℕ) → read_end s i ≡ None → broken s i ≡ false
unfolding read_end
no_end s i h =
    let by : (a b : Bool) → is_mark m.Semicolon (kind s i) ≡ a → broken s i ≡ b → ◌≡◌ {A = Option ℕ} (if a then Some (i + 1) else when (may_end (kind s i) b false) (Some i)) None → b ≡ false =
    λ a b. elim a as (λ a. is_mark m.Semicolon (kind s i) ≡ a → broken s i ≡ b → ◌≡◌ {A = Option ℕ} (if a then Some (i + 1) else when (may_end (kind s i) b false) (Some i)) None → b ≡ false) [
      | true ↦ λ p q h. absurd (let z : ◌≡◌ {A = Option ℕ} (Some (i + 1)) None = h in cc)
      | false ↦ λ p. elim b as (λ b. broken s i ≡ b → ◌≡◌ {A = Option ℕ} (when (may_end (kind s i) b false) (Some i)) None → b ≡ false) [
        | true ↦ λ q h. absurd (let z : ◌≡◌ {A = Option ℕ} (Some i) None = sym (ap (λ (c : Bool). when c (Some i)) (new_line_ends (kind s i) p)) ∙ h in cc)
        | false ↦ λ q h. refl
      ]
    ] in
    by (is_mark m.Semicolon (kind s i)) (broken s i) refl refl h

-- 2. Declared names.

-- what a reader of whole expressions keeps
abbrev pub ReadsWhole : Source → (room : ℕ) → (ℕ → Found Tree) → Type 0
ReadsWhole s room read = (i : ℕ) (e : Tree) (j : ℕ) → read i ≡ Some (e, j) → IsOperand s 1 e (IsBare s e) i j × (nesting e ≤ room) × (binds s j ≡ 0)

two_false : (a b : Bool) → a ≡ false → b ≡ false → (a || b) ≡ false
two_false false false p q = refl
two_false true b p q = absurd (false≢true (sym p))
two_false false true p q = absurd (false≢true (sym q))

three_false : (a b c : Bool) → a ≡ false → b ≡ false → c ≡ false → (a || b || c) ≡ false
three_false false false false p q r = refl
three_false true b c p q r = absurd (false≢true (sym p))
three_false false true c p q r = absurd (false≢true (sym q))
three_false false false true p q r = absurd (false≢true (sym r))

-- the end of a declared name: what goes on with it is a comma alone
abbrev pub StopsDeclared : Source → Declaration → ℕ → Type 0
StopsDeclared s a j = is_mark m.Comma (kind s j) ≡ false → declaration_continues s a j ≡ false

-- an initialiser, or none, and how a declared name ends with it
abbrev pub IsInitialiser : Source → (room : ℕ) (fixed : Bool) → OptionalTree → ℕ → ℕ → Type 0
IsInitialiser s room fixed first i j =
    IsInitialised s fixed first i j × (optional_nesting first ≤ room) ×
    ((at name : ℕ) (shape : Option Annotation) → (shape ≡ None → is_mark m.Colon (kind s i) ≡ false) → StopsDeclared s (Declare at name shape first) j)

lacking : (s : Source) (i at name : ℕ) (shape : Option Annotation) → is_mark m.Assign (kind s i) ≡ false → (shape ≡ None → is_mark m.Colon (kind s i) ≡ false) → StopsDeclared s (Declare at name shape absent) i
lacking s i at name None q c e = three_false (is_mark m.Colon (kind s i)) (is_mark m.Assign (kind s i)) (is_mark m.Comma (kind s i)) (c refl) q e
lacking s i at name (Some shape) q c e = two_false (is_mark m.Assign (kind s i)) (is_mark m.Comma (kind s i)) q e

pub initialiser_ok : (s : Source) (room : ℕ) (read : ℕ → Found Tree) → ReadsWhole s room read → (fixed : Bool) (i : ℕ) (b : Bool) → is_mark m.Assign (kind s i) ≡ b → (first : OptionalTree) (j : ℕ) → read_initialiser read fixed b i ≡ Some (first, j) → IsInitialiser s room fixed first i j
initialiser_ok s room read ok fixed i true q first j h =
    let r = bind_ok (read (i + 1)) (λ a. Some (present a.0, a.1)) (first, j) h in
    let a = ok (i + 1) r.0.0 r.0.1 r.1 in
    moved (λ (z : OptionalTree × ℕ). IsInitialiser s room fixed z.0 i z.1) (present r.0.0, r.0.1) (first, j) r.2 (
      (mark_is m.Assign (kind s i) q, a.0),
      a.1,
      λ at name shape c e. two_false (continues s r.0.1) (is_mark m.Comma (kind s r.0.1)) (nothing_continues s r.0.1 a.2) e,
    )
initialiser_ok s room read ok true i false q first j h = never (first, j) h
initialiser_ok s room read ok false i false q first j h =
    moved (λ (z : OptionalTree × ℕ). IsInitialiser s room false z.0 i z.1) (absent, i) (first, j) h
    ((refl, refl), omega arith, λ at name shape c e. lacking s i at name shape q c e)

pub declaration_ok : (s : Source) (room : ℕ) (read : ℕ → Found Tree) → ReadsWhole s room read → (fixed : Bool) (i : ℕ) (a : Declaration) (j : ℕ) → read_declaration s read fixed i ≡ Some (a, j) → IsDeclared s fixed a i j × (declaration_nesting a ≤ suc room) × StopsDeclared s a j
unfolding read_declaration
declaration_ok s room read ok fixed i a j h =
    let x = bind_ok (name_of (kind s i)) (λ name. read_optional_type s (i + 1) >>= λ t. read_initialiser read fixed (is_mark m.Assign (kind s t.1)) t.1 >>= λ first. Some (Declare (place s i) name t.0 first.0, first.1)) (a, j) h in
    let t = bind_ok (read_optional_type s (i + 1)) (λ t. read_initialiser read fixed (is_mark m.Assign (kind s t.1)) t.1 >>= λ first. Some (Declare (place s i) x.0 t.0 first.0, first.1)) (a, j) x.2 in
    let f = bind_ok (read_initialiser read fixed (is_mark m.Assign (kind s t.0.1)) t.0.1) (λ first. Some (Declare (place s i) x.0 t.0.0 first.0, first.1)) (a, j) t.2 in
    let shape = optional_type_ok s (i + 1) t.0.0 t.0.1 t.1 in
    let first = initialiser_ok s room read ok fixed t.0.1 (is_mark m.Assign (kind s t.0.1)) (refl {a = is_mark m.Assign (kind s t.0.1)}) f.0.0 f.0.1 f.1 in
    let deep : optional_nesting f.0.0 ≤ room = first.1 in
    moved (λ (z : Declaration × ℕ). IsDeclared s fixed z.0 i z.1 × (declaration_nesting z.0 ≤ suc room) × StopsDeclared s z.0 z.1) (Declare (place s i) x.0 t.0.0 f.0.0, f.0.1) (a, j) f.2
    ((t.0.1, refl, name_is (kind s i) x.0 x.1, shape.0, first.0), omega arith, first.2 (place s i) x.0 t.0.0 shape.1)

-- 3. Declared names with commas between them.

abbrev join_declarations : Declarations → Declarations → Declarations
join_declarations ended b = b
join_declarations (next a rest) b = next a (join_declarations rest b)

join_put_declaration : (all : Declarations) (a : Declaration) (rest : Declarations) → join_declarations (put_declaration all a) rest ≡ join_declarations all (next a rest)
join_put_declaration ended a rest = refl
join_put_declaration (next b all) a rest = ap (next b) (join_put_declaration all a rest)

put_is_join : (all : Declarations) (a : Declaration) → put_declaration all a ≡ join_declarations all (next a ended)
put_is_join ended a = refl
put_is_join (next b all) a = ap (next b) (put_is_join all a)

-- some declared names, and nothing goes on with the last
abbrev pub AreWhole : Source → (room : ℕ) (fixed : Bool) → Declarations → ℕ → ℕ → Type 0
AreWhole s room fixed each i j = AreDeclared s fixed each i j × (deepest_declaration each ≤ suc room) × (declarations_continue s each j ≡ false)

abbrev FurtherDeclared : Source → (room : ℕ) (fixed : Bool) (all found : Declarations) → ℕ → ℕ → Type 0
FurtherDeclared s room fixed all found i j =
    (a : Declaration) × (rest : Declarations) × (found ≡ join_declarations all (next a rest)) × AreWhole s room fixed (next a rest) i j

declarations_by : (s : Source) (room : ℕ) (read : ℕ → Found Tree) (fixed : Bool) (n : ℕ) (all : Declarations) (a : Declaration) (i k : ℕ) → IsDeclared s fixed a i k → declaration_nesting a ≤ suc room → StopsDeclared s a k →
    (b : Bool) → is_mark m.Comma (kind s k) ≡ b → (found : Declarations) (j : ℕ) → declarations_rest (read_declarations s read fixed n) (put_declaration all a) k b ≡ Some (found, j) →
    ((all : Declarations) (i : ℕ) (found : Declarations) (j : ℕ) → read_declarations s read fixed n all i ≡ Some (found, j) → FurtherDeclared s room fixed all found i j) →
    FurtherDeclared s room fixed all found i j
declarations_by s room read fixed n all a i k d deep stops true q found j h ih =
    let r = ih (put_declaration all a) (k + 1) found j h in
    let b : Declaration = r.0 in
    let rest : Declarations = r.1 in
    let rest_deep : deepest_declaration (next b rest) ≤ suc room = r.3.1 in
    (a, next b rest, r.2 ∙ join_put_declaration all a (next b rest), ((k, d, mark_is m.Comma (kind s k) q, r.3.0), omega arith, r.3.2))
declarations_by s room read fixed n all a i k d deep stops false q found j h ih =
    let same = both_are (put_declaration all a) k found j h in (
      a,
      ended,
      sym same.0 ∙ put_is_join all a,
      subst (λ (x : ℕ). AreWhole s room fixed (next a ended) i x) same.1 (d, omega arith, stops q),
    )

declarations_ok : (s : Source) (room : ℕ) (read : ℕ → Found Tree) → ReadsWhole s room read → (fixed : Bool) (n : ℕ) (all : Declarations) (i : ℕ) (found : Declarations) (j : ℕ) → read_declarations s read fixed n all i ≡ Some (found, j) → FurtherDeclared s room fixed all found i j
unfolding read_declarations
declarations_ok s room read ok fixed zero all i found j h = never (found, j) h
declarations_ok s room read ok fixed (suc n) all i found j h =
    let a = bind_ok (read_declaration s read fixed i) (λ a. declarations_rest (read_declarations s read fixed n) (put_declaration all a.0) a.1 (is_mark m.Comma (kind s a.1))) (found, j) h in
    let d = declaration_ok s room read ok fixed i a.0.0 a.0.1 a.1 in
    declarations_by s room read fixed n all a.0.0 i a.0.1 d.0 d.1 d.2 (is_mark m.Comma (kind s a.0.1)) (refl {a = is_mark m.Comma (kind s a.0.1)}) found j a.2 (declarations_ok s room read ok fixed n)

-- the declared names behind a `let` or `const`
pub let_ok : (s : Source) (room : ℕ) (read : ℕ → Found Tree) → ReadsWhole s room read → (fixed : Bool) (i : ℕ) (each : Declarations) (j : ℕ) → read_let s read fixed i ≡ Some (each, j) → AreWhole s room fixed each i j
unfolding read_let
let_ok s room read ok fixed i each j h =
    let r = declarations_ok s room read ok fixed (length s.tokens) ended i each j h in
    subst (λ (z : Declarations). AreWhole s room fixed z i j) (sym r.2) r.3
