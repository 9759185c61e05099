-- The tokens of the library's text are read as the library's tree.
use Rattle.std.proofs.Common.{◌≡◌, ℕ, List, [], ◌∷◌, ◌++◌, map, refl, sym, ap, ◌∙◌, subst}
use Rattle.std.specs.Prelude.{Option, Some, slice_get, slice_range}
use lib.Chars.{codes}
use Rattle.sts_base.specs.Distinct.{IsDistinct}
use Rattle.sts_base.specs.declared.tables.Tables.{Tables}
use Rattle.sts_lexer.specs.Spaces.{start_of}
use Rattle.sts_lexer.specs.Tokens.{IsTokenization}
use Rattle.sts_lexer.specs.declared.token.Token.{Token}
use Rattle.sts_lexer.specs.declared.token.TokenKind.TheVariants as k
use Rattle.sts_lexer.proofs.Laws.{finish_behind}
use Rattle.sts_syntax.specs.Annotations as a
use Rattle.sts_syntax.specs.Annotations.{Annotation}
use Rattle.sts_syntax.specs.Programs.{Program}
use Rattle.sts_grammar.specs.ReadHeadings.{type_of_entry, wrap_type, read_type, read_result, read_optional_type, read_optional_result, read_parameter, read_more_parameters, read_parameters, read_heading, read_arrow_heading, begins_arrow, is_arrow_behind}
use Rattle.sts_grammar.specs.ReadExpressions.{read_items, read_listed, read_arguments, read_statements, read_block, read_handler, climb, opened, close_at, unwind, read_inside, read_operand}
use Rattle.sts_grammar.specs.ReadStatements.{read_end, read_condition, read_declaration, read_declarations, read_let, read_plain, read_let_statement, read_while}
use Rattle.sts_grammar.specs.Reading.{expression, statement}
use Rattle.sts_grammar.specs.ReadUnits.{read_routine, read_function, read_parts, read_program}
use Rattle.sts_grammar.specs.Texts.{source}
use Rattle.sts_grammar.specs.Units.{IsProgram}
use Rattle.sts_grammar.proofs.Laws.{what_is_read}
use Rattle.sts_prelude.specs.Library.{place, named_at, parameter, function, show_leds, show_glyphs, write_line, absolute, one_of_two, library}
use Rattle.sts_prelude.specs.declared.text.TheConstants.{LIBRARY}
use Rattle.sts_prelude.proofs.Tokens.{own, front, own_tokens, own_tokenized}
use Rattle.sts_prelude.proofs.Renumbered.{renumber, moved, tokens_other, named, next_at}

-- the tokens with other entries
abbrev pub tokens_by : (names texts : ℕ → ℕ) → List Token
tokens_by names texts = map (renumber names texts) own_tokens

-- the library, where its two names of types have these strings
abbrev library_by : List Token → (number text : Option (List ℕ)) → Program
library_by tokens number text =
    let n = λ (i : ℕ). type_of_entry number (a.Named (place tokens i) (named_at tokens i)) in
    let t = λ (i : ℕ). type_of_entry text (a.Named (place tokens i) (named_at tokens i)) in
    function tokens 0 (parameter tokens 3 (n 5) ∷ []) a.Nothing (show_leds tokens 10)
    ∷ function tokens 22 (parameter tokens 25 (n 27) ∷ []) a.Nothing (show_glyphs tokens 32)
    ∷ function tokens 78 (parameter tokens 81 (t 83) ∷ []) a.Nothing (show_glyphs tokens 88)
    ∷ function tokens 134 (parameter tokens 137 (t 139) ∷ []) a.Nothing (write_line tokens 144)
    ∷ function tokens 158 (parameter tokens 161 (n 163) ∷ []) (n 166) (absolute tokens 168)
    ∷ function tokens 179 (parameter tokens 182 (n 184) ∷ parameter tokens 186 (n 188) ∷ []) (n 191) (one_of_two tokens 193 6)
    ∷ function tokens 202 (parameter tokens 205 (n 207) ∷ parameter tokens 209 (n 211) ∷ []) (n 214) (one_of_two tokens 216 7)
    ∷ []

reads_by : (names texts : ℕ → ℕ) (strings : List (List ℕ))
    → read_program (record { tokens = tokens_by names texts; names = strings }) ≡ Some (library_by (tokens_by names texts) (slice_get strings (names 3)) (slice_get strings (names 17)))
unfolding wrap_type read_type read_result read_optional_type read_optional_result read_parameter read_more_parameters read_parameters read_heading read_arrow_heading begins_arrow is_arrow_behind read_items read_listed read_arguments read_statements read_block read_handler climb opened close_at unwind read_inside read_operand read_end read_condition read_declaration read_declarations read_let read_plain read_let_statement read_while expression statement read_routine read_function read_parts read_program
reads_by names texts strings = refl

no_end : (ys : List Token) (x y b : Token) → ◌≡◌ {A = List Token} (x ∷ []) (b ∷ (ys ++ y ∷ [])) → ⊥
no_end [] x y b h = let e : ◌≡◌ {A = List Token} [] (y ∷ []) = cc in cc
no_end (c ∷ ys) x y b h = let e : ◌≡◌ {A = List Token} [] (c ∷ (ys ++ y ∷ [])) = cc in cc

-- two lists with an end each have the same before it
front_same : (xs ys : List Token) (x y : Token) → xs ++ x ∷ [] ≡ ys ++ y ∷ [] → xs ≡ ys
front_same [] [] x y h = refl
front_same [] (b ∷ ys) x y h = absurd (no_end ys x y b h)
front_same (a ∷ xs) [] x y h = absurd (no_end xs y x a (sym h))
front_same (a ∷ xs) (b ∷ ys) x y h =
    let heads : a ≡ b = cc in
    let tails : xs ++ x ∷ [] ≡ ys ++ y ∷ [] = cc in
    ap (λ (t : Token). t ∷ xs) heads ∙ ap (λ (ts : List Token). b ∷ ts) (front_same xs ys x y tails)

-- the tokens of the text by any tables
pub own_tokens_are : (tables : Tables) (tokens : List Token) → IsDistinct tables.names → IsDistinct tables.texts → IsTokenization tables LIBRARY.now tokens
    → tokens ≡ tokens_by (moved own.names tables.names) (moved own.texts tables.texts)
own_tokens_are tables tokens names texts h =
    tokens_other own tables names texts LIBRARY.now own_tokens tokens own_tokenized h

-- the string of a name among them
pub string_of : (tables : Tables) (names texts : ℕ → ℕ) (tokens : List Token) (n named_at : ℕ) (token : Token) → IsTokenization tables LIBRARY.now tokens
    → tokens ≡ tokens_by names texts → slice_get (map (renumber names texts) front) n ≡ Some token → token.kind ≡ k.Name named_at
    → slice_get tables.names named_at ≡ Some (slice_range LIBRARY.now token.span.from token.span.upto)
string_of tables names texts tokens n named_at token h same here kind =
    let fronts : h.front ≡ map (renumber names texts) front = front_same h.front (map (renumber names texts) front) h.finish (finish_behind LIBRARY.now front) (sym h.all_is ∙ same) in
    let next = next_at tables LIBRARY.now (start_of LIBRARY.now) h.stop n h.front token h.read (subst (λ (x : List Token). slice_get x n ≡ Some token) (sym fronts) here) in
    named tables LIBRARY.now next.0 named_at token next.1 kind

-- a program whose types of names are known
typed : (names texts : ℕ → ℕ) (strings : List (List ℕ)) → slice_get strings (names 3) ≡ Some (codes "number") → slice_get strings (names 17) ≡ Some (codes "string")
    → read_program (record { tokens = tokens_by names texts; names = strings }) ≡ Some (library (tokens_by names texts))
typed names texts strings number text =
    let tokens = tokens_by names texts in
    reads_by names texts strings
    ∙ (ap (λ (o : Option (List ℕ)). Some (library_by tokens o (slice_get strings (names 17)))) number
    ∙ ap (λ (o : Option (List ℕ)). Some (library_by tokens (Some (codes "number")) o)) text)

pub library_spelled : (tables : Tables) (tokens : List Token) → IsDistinct tables.names → IsDistinct tables.texts → IsTokenization tables LIBRARY.now tokens
    → IsProgram (source tokens tables) (library tokens)
library_spelled tables tokens names texts h =
    let n = moved own.names tables.names in
    let x = moved own.texts tables.texts in
    let same : tokens ≡ tokens_by n x = own_tokens_are tables tokens names texts h in
    let number = string_of tables n x tokens 5 (n 3) _ h same refl refl in
    let text = string_of tables n x tokens 83 (n 17) _ h same refl refl in
    let is : IsProgram (source (tokens_by n x) tables) (library (tokens_by n x)) =
    what_is_read (source (tokens_by n x) tables) (library (tokens_by n x)) (typed n x tables.names number text) in
    subst (λ (all : List Token). IsProgram (source all tables) (library all)) (sym same) is
