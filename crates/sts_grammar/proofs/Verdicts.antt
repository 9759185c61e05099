-- A text has one verdict.
use Rattle.std.proofs.Common.{◌≡◌, ℕ, List, refl, subst, arith, inl, inr}
use Rattle.std.proofs.lemmas.Option.{slice_get_within}
use Rattle.sts_base.specs.declared.tables.Tables.{Tables}
use Rattle.sts_base.specs.declared.refused.Code.{Code}
use Rattle.sts_base.specs.declared.refused.Code.TheVariants as code
use Rattle.sts_lexer.specs.declared.token.Token.{Token}
use Rattle.sts_lexer.specs.Laws.{IsRead}
use Rattle.sts_lexer.proofs.Laws.{one_numbering, tokens_or_refusal}
use Rattle.sts_grammar.specs.Texts.{source, RefusesSource, no_entries, HasTokens, SpellsProgram, SpellsNone}
use Rattle.sts_grammar.specs.Deep.{NoneDeep, IsFirstDeep}
use Rattle.sts_grammar.specs.Units.{IsProgram}
use Rattle.sts_grammar.specs.Laws.{OneVerdict}
use Rattle.sts_grammar.proofs.Programs.{one_program}

is_read : (text : List ℕ) (tables : Tables) (tokens : List Token) → HasTokens text tables tokens → IsRead no_entries text tables tokens
is_read text tables tokens h = record {
  tokens = h.tokenization;
  names = h.names;
  texts = h.texts;
  more_names = (tables.names, refl);
  more_texts = (tables.texts, refl);
  in_order = h.in_order;
}

-- a text has one list of tokens by tables of its own
pub own_tokens : (text : List ℕ) (tables tables' : Tables) (tokens tokens' : List Token) → HasTokens text tables tokens → HasTokens text tables' tokens'
    → (tables ≡ tables') × (tokens ≡ tokens')
own_tokens text tables tables' tokens tokens' h h' =
    one_numbering no_entries tables tables' text tokens tokens' (is_read text tables tokens h) (is_read text tables' tokens' h')

not_deep : (tokens : List Token) (at : ℕ) → NoneDeep tokens → IsFirstDeep tokens at → ⊥
not_deep tokens at none h = absurd (omega (arith, h.deep, none h.at (slice_get_within tokens h.at h.token h.is)))

not_refused : (text : List ℕ) (why : Code) (at : ℕ) (s : SpellsProgram text) → RefusesSource (source s.tokens s.tables) why at → ⊥
not_refused text code.TooDeep at s r = not_deep s.tokens at s.shallow r
not_refused text code.Syntax at s r = r.1 s.program s.spelled
not_refused text other at s r = r

verdict : (text : List ℕ) (why : Code) (at : ℕ) → SpellsProgram text → SpellsNone text why at → ⊥
verdict text why at s (inl r) = tokens_or_refusal s.tables text s.tokens why at s.read.tokenization r
verdict text why at s (inr r) =
    let same = own_tokens text r.tables s.tables r.tokens s.tokens r.read s.read in
    not_refused text why at s
    (subst (λ (x : Tables). RefusesSource (source s.tokens x) why at) same.0 (subst (λ (x : List Token). RefusesSource (source x r.tables) why at) same.1 r.why))

program_same : (text : List ℕ) (a b : SpellsProgram text) → a.program ≡ b.program
program_same text a b =
    let same = own_tokens text a.tables b.tables a.tokens b.tokens a.read b.read in
    one_program.one (source b.tokens b.tables) a.program b.program
    (subst (λ (x : Tables). IsProgram (source b.tokens x) a.program) same.0 (subst (λ (x : List Token). IsProgram (source x a.tables) a.program) same.1 a.spelled)).spelled
    b.spelled.spelled

pub one_verdict : OneVerdict
one_verdict = record { either = verdict; program = program_same }
