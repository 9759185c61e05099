-- Whole programs that tokens spell are formed.
use Rattle.std.proofs.Common.{◌≡◌, ℕ, zero, suc, ◌+◌, ◌%◌, ◌^◌, ◌<◌, ℤ, Bool, true, false, nat_lt, Some, None, List, [], ◌∷◌, ◌++◌, slice_get, length, refl, sym, ◌∙◌, subst, arith}
use Rattle.std.specs.Int.{cast_signed, w32}
use Rattle.sts_base.specs.declared.tables.Tables.{Tables}
use Rattle.sts_lexer.specs.Lexemes.{Lexeme, name, number, quoted, mark}
use Rattle.sts_lexer.specs.Spaces.{start_of}
use Rattle.sts_lexer.specs.Tokens.{IsKindOf, AreTokens, IsTokenization}
use Rattle.sts_lexer.specs.declared.token.TokenKind.{TokenKind}
use Rattle.sts_lexer.specs.declared.token.TokenKind.TheVariants as k
use Rattle.sts_lexer.specs.declared.token.Token.{Token}
use Rattle.sts_syntax.specs.TypeRules.{is_int32}
use Rattle.sts_syntax.specs.Trees.{Declare, Does}
use Rattle.sts_syntax.specs.Programs.{ClassMember, Field, Method, Constructor, TopLevel, Class, Function, Main, Program}
use Rattle.sts_grammar.specs.Source.{Source, kind_of}
use Rattle.sts_grammar.specs.Texts.{source}
use Rattle.sts_grammar.specs.Units.{IsMember, AreMembers, IsPart, AreParts, IsProgram}
use Rattle.sts_grammar.specs.Spells.{InBlock}
use Rattle.typed_laws.specs.Formed.{Is32, Any, StatementsHave, MemberHas, MembersHave, ItemHas, ProgramHas, IsFormedProgram, TextsBelow}
use Rattle.typed_laws.proofs.FormedTrees.{HasNumbers, HasTexts, routine, statement, initialised, block}

-- ToInt32 gives numbers of 32 bits
cast_fits : (w : ℕ) → w < 2 ^ 32 → is_int32 (cast_signed w32 w) ≡ true
cast_fits w h = by_sign (nat_lt w (2 ^ 31)) refl
  where
    by_sign : (c : Bool) → nat_lt w (2 ^ 31) ≡ c → is_int32 (cast_signed w32 w) ≡ true
    by_sign c e = grind arith

kind_fits : (tables : Tables) (lexeme : Lexeme) (x : TokenKind) → IsKindOf tables lexeme x → (n : ℤ) → x ≡ k.Num n → is_int32 n ≡ true
kind_fits tables (number value) (k.Num int) h n e =
    let one : int ≡ n = cc in
    let fits : value % 2 ^ 32 < 2 ^ 32 = omega arith in
    subst (λ z. is_int32 z ≡ true) (sym h ∙ one) (cast_fits (value % 2 ^ 32) fits)
kind_fits tables lexeme (k.Text entry) h n e = cc
kind_fits tables lexeme (k.Name entry) h n e = cc
kind_fits tables lexeme (k.Word word entry) h n e = cc
kind_fits tables lexeme (k.Mark which) h n e = cc
kind_fits tables lexeme k.Finish h n e = cc
kind_fits tables (name bytes) (k.Num int) h n e = absurd h
kind_fits tables (quoted value) (k.Num int) h n e = absurd h
kind_fits tables (mark which) (k.Num int) h n e = absurd h

token_fits : (tables : Tables) (text : List ℕ) (finish : Token) → finish.kind ≡ k.Finish → (front : List Token) (at stop : ℕ) → AreTokens tables text at front stop
    → (i : ℕ) (n : ℤ) → kind_of (slice_get (front ++ finish ∷ []) i) ≡ k.Num n → is_int32 n ≡ true
token_fits tables text finish f [] at stop h zero n e = cc
token_fits tables text finish f [] at stop h (suc i) n e = cc
token_fits tables text finish f (t ∷ ts) at stop h zero n e = kind_fits tables h.0.reads.lexeme t.kind h.0.reads.is n e
token_fits tables text finish f (t ∷ ts) at stop h (suc i) n e = token_fits tables text finish f ts t.span.upto stop h.1 i n e

numbers_fit : (tables : Tables) (text : List ℕ) (tokens : List Token) → IsTokenization tables text tokens → HasNumbers Is32 (source tokens tables)
numbers_fit tables text tokens r i n e =
    token_fits tables text r.finish r.ends.kind r.front (start_of text) r.stop r.read i n (subst (λ all. kind_of (slice_get all i) ≡ k.Num n) r.all_is e)

-- a text's entry is there
there : {A : Type 0} (xs : List A) (i : ℕ) (x : A) → slice_get xs i ≡ Some x → i < length xs
there [] i x e = cc
there (y ∷ ys) zero x e = omega arith
there (y ∷ ys) (suc i) x e = let less : i < length ys = there ys i x e in omega arith

kind_stands : (tables : Tables) (lexeme : Lexeme) (z : TokenKind) → IsKindOf tables lexeme z → (x : ℕ) → z ≡ k.Text x → x < length tables.texts
kind_stands tables (quoted value) (k.Text entry) h x e = let one : entry ≡ x = cc in subst (λ n. n < length tables.texts) one (there tables.texts entry value h)
kind_stands tables lexeme (k.Num int) h x e = cc
kind_stands tables lexeme (k.Name entry) h x e = cc
kind_stands tables lexeme (k.Word word entry) h x e = cc
kind_stands tables lexeme (k.Mark which) h x e = cc
kind_stands tables lexeme k.Finish h x e = cc
kind_stands tables (name bytes) (k.Text entry) h x e = absurd h
kind_stands tables (number value) (k.Text entry) h x e = absurd h
kind_stands tables (mark which) (k.Text entry) h x e = absurd h

token_stands : (tables : Tables) (text : List ℕ) (finish : Token) → finish.kind ≡ k.Finish → (front : List Token) (at stop : ℕ) → AreTokens tables text at front stop
    → (i x : ℕ) → kind_of (slice_get (front ++ finish ∷ []) i) ≡ k.Text x → x < length tables.texts
token_stands tables text finish f [] at stop h zero x e = cc
token_stands tables text finish f [] at stop h (suc i) x e = cc
token_stands tables text finish f (t ∷ ts) at stop h zero x e = kind_stands tables h.0.reads.lexeme t.kind h.0.reads.is x e
token_stands tables text finish f (t ∷ ts) at stop h (suc i) x e = token_stands tables text finish f ts t.span.upto stop h.1 i x e

texts_stand : (tables : Tables) (text : List ℕ) (tokens : List Token) → IsTokenization tables text tokens → HasTexts (λ x. x < length tables.texts) (source tokens tables)
texts_stand tables text tokens r i x e =
    token_stands tables text r.finish r.ends.kind r.front (start_of text) r.stop r.read i x (subst (λ all. kind_of (slice_get all i) ≡ k.Text x) r.all_is e)

module _ (IsNumber : ℤ → Type 0) (IsText : ℕ → Type 0) (s : Source) (numbers : HasNumbers IsNumber s) (texts : HasTexts IsText s) where
  member : (a : ClassMember) (i j : ℕ) → IsMember s a i j → MemberHas IsNumber IsText a
  member (Field (Declare at x shape first)) i j h = initialised IsNumber IsText s numbers texts false first h.1 h.2 h.7
  member (Method x (Does at params gives all true)) i j h = absurd h
  member (Method x (Does at params gives all false)) i j h = routine s params gives false (InBlock s true false all) (StatementsHave IsNumber IsText false all) (block IsNumber IsText s numbers texts true false all) (h.0 + 1) j h.5
  member (Constructor (Does at params None all false)) i j h = routine s params None false (InBlock s true false all) (StatementsHave IsNumber IsText false all) (block IsNumber IsText s numbers texts true false all) (h.0 + 1) j h.4
  member (Constructor (Does at params None all true)) i j h = absurd h
  member (Constructor (Does at params (Some g) all arrow)) i j h = absurd h

  members : (all : List ClassMember) (i j : ℕ) → AreMembers s all i j → MembersHave IsNumber IsText all
  members [] i j h = tt
  members (a ∷ rest) i j h = (member a h.0 h.1 h.3, members rest h.1 j h.4)

  part : (a : TopLevel) (i j : ℕ) → IsPart s a i j → ItemHas IsNumber IsText a
  part (Class at x base base_at all) i j h = members all (h.0 + 1) j h.6
  part (Function x (Does at params gives all true)) i j h = absurd h
  part (Function x (Does at params gives all false)) i j h = routine s params gives false (InBlock s true false all) (StatementsHave IsNumber IsText false all) (block IsNumber IsText s numbers texts true false all) (i + 2) j h.3
  part (Main a) i j h = statement IsNumber IsText s numbers texts false false a i j h

  parts : (all : Program) (i : ℕ) → AreParts s all i → ProgramHas IsNumber IsText all
  parts [] i h = tt
  parts (a ∷ rest) i h = (part a i h.0 h.1, parts rest h.0 h.2)

pub program_formed : (tables : Tables) (text : List ℕ) (tokens : List Token) (program : Program) → IsTokenization tables text tokens → IsProgram (source tokens tables) program → IsFormedProgram program
program_formed tables text tokens program read spelled = parts Is32 Any (source tokens tables) (numbers_fit tables text tokens read) (λ i x e. tt) program 0 spelled.spelled

pub program_texts_below : (tables : Tables) (text : List ℕ) (tokens : List Token) (program : Program) → IsTokenization tables text tokens → IsProgram (source tokens tables) program → TextsBelow (length tables.texts) program
program_texts_below tables text tokens program read spelled =
    parts (λ z. Unit {0}) (λ x. x < length tables.texts) (source tokens tables) (λ i n e. tt) (texts_stand tables text tokens read) program 0 spelled.spelled
