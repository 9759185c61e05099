-- Types, parameters and headings that are read are spelled.
use Rattle.std.proofs.Common.{◌≡◌, ℕ, zero, suc, ◌+◌, List, [], ◌∷◌, ◌++◌, refl, sym, ◌∙◌, subst, append_assoc}
use Rattle.std.specs.Prelude.{Bool, true, false, not, ◌&&◌, if◌then◌else◌, Option, Some, None, slice_get, length}
use Rattle.std.proofs.lemmas.List.{append-nil}
use Rattle.std.proofs.lemmas.Bool.{false≢true}
use lib.Chars.{codes}
use Rattle.sts_lexer.specs.declared.marks.Mark.TheVariants as m
use Rattle.sts_syntax.specs.Annotations.{Annotation, Number, Boolean, Text, Nothing, Named, ListOf}
use Rattle.sts_syntax.specs.Trees.{Parameter}
use Rattle.sts_lexer.specs.declared.words.Word.TheVariants as w
use Rattle.sts_grammar.specs.Source.{Source, kind, broken, place, IsMark, IsName, is_mark, is_word}
use Rattle.sts_grammar.specs.Headings.{IsType, IsResult, HasType, HasResult, IsParameter, MoreParameters, AreParameters}
use Rattle.sts_grammar.specs.Found.{◌>>=◌, when, name_of, has_bytes}
use Rattle.sts_grammar.specs.ReadHeadings.{type_named, is_pair, wrap_type, read_type, read_result, optional_by, read_optional_type, read_optional_result, read_parameter, parameters_rest, read_more_parameters, read_parameters, read_heading, read_arrow_heading, is_found, begins_arrow}
use Rattle.sts_grammar.proofs.Tokens.{bind_ok, when_ok, moved, both_are, never, both_true, not_true, mark_is, word_is, name_is, has_bytes_is, has_bytes_isnt}

-- 1. Types.

by_entry : (s : Source) (name i : ℕ) → IsName s i name → (a b c : Bool) → has_bytes (slice_get s.names name) (codes "number") ≡ a → has_bytes (slice_get s.names name) (codes "boolean") ≡ b → has_bytes (slice_get s.names name) (codes "string") ≡ c → IsType s (if a then Number else (if b then Boolean else (if c then Text else (Named (place s i) name)))) i (i + 1)
by_entry s name i q true b c ea eb ec = ((name, q, has_bytes_is (slice_get s.names name) (codes "number") ea), refl)
by_entry s name i q false true c ea eb ec = ((name, q, has_bytes_is (slice_get s.names name) (codes "boolean") eb), refl)
by_entry s name i q false false true ea eb ec = ((name, q, has_bytes_is (slice_get s.names name) (codes "string") ec), refl)
by_entry s name i q false false false ea eb ec =
    ((refl, q, has_bytes_isnt (slice_get s.names name) (codes "number") ea, has_bytes_isnt (slice_get s.names name) (codes "boolean") eb, has_bytes_isnt (slice_get s.names name) (codes "string") ec), refl)

named_ok : (s : Source) (name i : ℕ) → IsName s i name → IsType s (type_named s name i) i (i + 1)
named_ok s name i q =
    by_entry s name i q (has_bytes (slice_get s.names name) (codes "number")) (has_bytes (slice_get s.names name) (codes "boolean")) (has_bytes (slice_get s.names name) (codes "string")) refl refl refl

pair_ok : (s : Source) (t : Annotation) (from i : ℕ) → is_pair s i ≡ true → IsType s t from i → IsType s (ListOf t) from (i + 2)
pair_ok s t from i h a =
    let x = both_true (is_mark m.OpenBracket (kind s i)) (not (broken s i) && is_mark m.CloseBracket (kind s (i + 1))) h in
    let y = both_true (not (broken s i)) (is_mark m.CloseBracket (kind s (i + 1))) x.1 in
    (i, a, mark_is m.OpenBracket (kind s i) x.0, not_true (broken s i) y.0, mark_is m.CloseBracket (kind s (i + 1)) y.1, refl)

wrap_ok : (s : Source) (n : ℕ) (t : Annotation) (from i : ℕ) → IsType s t from i → IsType s (wrap_type s n t i).0 from (wrap_type s n t i).1
unfolding wrap_type
wrap_ok s zero t from i a = a
wrap_ok s (suc n) t from i a =
    let by : (b : Bool) → is_pair s i ≡ b → IsType s (if b then wrap_type s n (ListOf t) (i + 2) else (t, i)).0 from (if b then wrap_type s n (ListOf t) (i + 2) else (t, i)).1 =
    λ b. elim b as (λ b. is_pair s i ≡ b → IsType s (if b then wrap_type s n (ListOf t) (i + 2) else (t, i)).0 from (if b then wrap_type s n (ListOf t) (i + 2) else (t, i)).1)
    [ true ↦ λ q. wrap_ok s n (ListOf t) from (i + 2) (pair_ok s t from i q a) | false ↦ λ q. a ] in
    by (is_pair s i) refl

pub type_ok : (s : Source) (i : ℕ) (t : Annotation) (j : ℕ) → read_type s i ≡ Some (t, j) → IsType s t i j
unfolding read_type
type_ok s i t j h =
    let r = bind_ok (name_of (kind s i)) (λ name. Some (wrap_type s (length s.tokens) (type_named s name i) (i + 1))) (t, j) h in
    let q = name_is (kind s i) r.0 r.1 in
    moved (λ (z : Annotation × ℕ). IsType s z.0 i z.1) (wrap_type s (length s.tokens) (type_named s r.0 i) (i + 1)) (t, j) r.2
    (wrap_ok s (length s.tokens) (type_named s r.0 i) i (i + 1) (named_ok s r.0 i q))

type_is_result : (s : Source) (t : Annotation) (i j : ℕ) → IsType s t i j → IsResult s t i j
type_is_result s Nothing i j h = absurd h.0
type_is_result s t i j h = h

result_by : (s : Source) (i : ℕ) (b : Bool) → is_word w.Void (kind s i) ≡ b → (t : Annotation) (j : ℕ) → (if b then Some (Nothing, i + 1) else read_type s i) ≡ Some (t, j) → IsResult s t i j
result_by s i true q t j h =
    moved (λ (z : Annotation × ℕ). IsResult s z.0 i z.1) (Nothing, i + 1) (t, j) h (word_is s i w.Void (kind s i) refl q, refl)
result_by s i false q t j h = type_is_result s t i j (type_ok s i t j h)

pub result_ok : (s : Source) (i : ℕ) (t : Annotation) (j : ℕ) → read_result s i ≡ Some (t, j) → IsResult s t i j
unfolding read_result
result_ok s i t j h = result_by s i (is_word w.Void (kind s i)) refl t j h

optional_type_by : (s : Source) (i : ℕ) (b : Bool) → is_mark m.Colon (kind s i) ≡ b → (t : Option Annotation) (j : ℕ) → optional_by (read_type s) b i ≡ Some (t, j) → HasType s t i j × (t ≡ None → is_mark m.Colon (kind s j) ≡ false)
optional_type_by s i true q t j h =
    let r = bind_ok (read_type s (i + 1)) (λ t. Some (Some t.0, t.1)) (t, j) h in
    moved (λ (z : Option Annotation × ℕ). HasType s z.0 i z.1 × (z.0 ≡ None → is_mark m.Colon (kind s z.1) ≡ false)) (Some r.0.0, r.0.1) (t, j) r.2
    ((mark_is m.Colon (kind s i) q, type_ok s (i + 1) r.0.0 r.0.1 r.1), λ e. absurd (cc))
optional_type_by s i false q t j h =
    moved (λ (z : Option Annotation × ℕ). HasType s z.0 i z.1 × (z.0 ≡ None → is_mark m.Colon (kind s z.1) ≡ false)) (None, i) (t, j) h (refl, λ e. q)

-- A type that may be left out: where it is, no `:` stands there.
pub optional_type_ok : (s : Source) (i : ℕ) (t : Option Annotation) (j : ℕ) → read_optional_type s i ≡ Some (t, j) → HasType s t i j × (t ≡ None → is_mark m.Colon (kind s j) ≡ false)
unfolding read_optional_type
optional_type_ok s i t j h = optional_type_by s i (is_mark m.Colon (kind s i)) refl t j h

optional_result_by : (s : Source) (i : ℕ) (b : Bool) → is_mark m.Colon (kind s i) ≡ b → (t : Option Annotation) (j : ℕ) → optional_by (read_result s) b i ≡ Some (t, j) → HasResult s t i j
optional_result_by s i true q t j h =
    let r = bind_ok (read_result s (i + 1)) (λ t. Some (Some t.0, t.1)) (t, j) h in
    moved (λ (z : Option Annotation × ℕ). HasResult s z.0 i z.1) (Some r.0.0, r.0.1) (t, j) r.2
    (mark_is m.Colon (kind s i) q, result_ok s (i + 1) r.0.0 r.0.1 r.1)
optional_result_by s i false q t j h =
    moved (λ (z : Option Annotation × ℕ). HasResult s z.0 i z.1) (None, i) (t, j) h refl

pub optional_result_ok : (s : Source) (i : ℕ) (t : Option Annotation) (j : ℕ) → read_optional_result s i ≡ Some (t, j) → HasResult s t i j
unfolding read_optional_result
optional_result_ok s i t j h = optional_result_by s i (is_mark m.Colon (kind s i)) refl t j h

-- 2. Parameters.

pub parameter_ok : (s : Source) (i : ℕ) (p : Parameter) (j : ℕ) → read_parameter s i ≡ Some (p, j) → IsParameter s p i j
unfolding read_parameter
parameter_ok s i p j h =
    let r = bind_ok (name_of (kind s i)) (λ name. read_optional_type s (i + 1) >>= λ t. Some (record { at = place s i; name = name; shape = t.0 }, t.1)) (p, j) h in
    let t = bind_ok (read_optional_type s (i + 1)) (λ t. Some (record { at = place s i; name = r.0; shape = t.0 }, t.1)) (p, j) r.2 in
    moved (λ (z : Parameter × ℕ). IsParameter s z.0 i z.1) (record { at = place s i; name = r.0; shape = t.0.0 }, t.0.1) (p, j) t.2
    (refl, name_is (kind s i) r.0 r.1, (optional_type_ok s (i + 1) t.0.0 t.0.1 t.1).0)

-- what parameters that are read behind others add to them
abbrev Further : Source → (all found : List Parameter) → ℕ → ℕ → Type 0
Further s all found i j = (p : Parameter) × (rest : List Parameter) × (n : ℕ) × (found ≡ all ++ (p ∷ rest)) × IsParameter s p i n × MoreParameters s rest n j

rest_by : (s : Source) (n : ℕ) (all : List Parameter) (i : ℕ) (b : Bool) → is_mark m.CloseParenthesis (kind s i) ≡ b → (found : List Parameter) (j : ℕ) → (if b then Some (all, i + 1) else when (is_mark m.Comma (kind s i)) (read_more_parameters s n all (i + 1))) ≡ Some (found, j) →
    ((found : List Parameter) (j : ℕ) → read_more_parameters s n all (i + 1) ≡ Some (found, j) → Further s all found (i + 1) j) →
    (rest : List Parameter) × (found ≡ all ++ rest) × MoreParameters s rest i j
rest_by s n all i true q found j h ih =
    let same = both_are all (i + 1) found j h in
    ([], sym same.0 ∙ sym (append-nil all), (mark_is m.CloseParenthesis (kind s i) q, sym same.1))
rest_by s n all i false q found j h ih =
    let c = when_ok (is_mark m.Comma (kind s i)) (read_more_parameters s n all (i + 1)) (found, j) h in
    let r = ih found j c.1 in
    (r.0 ∷ r.1, r.3, (r.2, mark_is m.Comma (kind s i) c.0, r.4, r.5))

more_parameters_ok : (s : Source) (n : ℕ) (all : List Parameter) (i : ℕ) (found : List Parameter) (j : ℕ) → read_more_parameters s n all i ≡ Some (found, j) → Further s all found i j
unfolding read_more_parameters
more_parameters_ok s zero all i found j h = never (found, j) h
more_parameters_ok s (suc n) all i found j h =
    let p = bind_ok (read_parameter s i) (λ p. parameters_rest (read_more_parameters s n) (all ++ p.0 ∷ []) p.1 (kind s p.1)) (found, j) h in
    let r = rest_by s n (all ++ p.0.0 ∷ []) p.0.1 (is_mark m.CloseParenthesis (kind s p.0.1)) (refl {a = is_mark m.CloseParenthesis (kind s p.0.1)}) found j p.2 (more_parameters_ok s n (all ++ p.0.0 ∷ []) (p.0.1 + 1)) in
    (p.0.0, r.0, p.0.1, r.1 ∙ append_assoc all (p.0.0 ∷ []) r.0, parameter_ok s i p.0.0 p.0.1 p.1, r.2)

parameters_by : (s : Source) (i : ℕ) (b : Bool) → is_mark m.CloseParenthesis (kind s i) ≡ b → (all : List Parameter) (j : ℕ) → (if b then Some ([], i + 1) else read_more_parameters s (length s.tokens) [] i) ≡ Some (all, j) → AreParameters s all i j
parameters_by s i true q all j h =
    moved (λ (z : List Parameter × ℕ). AreParameters s z.0 i z.1) ([], i + 1) (all, j) h (mark_is m.CloseParenthesis (kind s i) q, refl)
parameters_by s i false q all j h =
    let r = more_parameters_ok s (length s.tokens) [] i all j h in
    subst (λ (z : List Parameter). AreParameters s z i j) (sym r.3) (r.2, r.4, r.5)

pub parameters_ok : (s : Source) (i : ℕ) (all : List Parameter) (j : ℕ) → read_parameters s i ≡ Some (all, j) → AreParameters s all i j
unfolding read_parameters
parameters_ok s i all j h = parameters_by s i (is_mark m.CloseParenthesis (kind s i)) refl all j h

-- 3. Headings.

-- parameters in parentheses, and a result's type
abbrev pub IsHeading : Source → List Parameter → Option Annotation → ℕ → ℕ → Type 0
IsHeading s params gives i j = (n : ℕ) × IsMark s i m.OpenParenthesis × AreParameters s params (i + 1) n × HasResult s gives n j

pub heading_ok : (s : Source) (i : ℕ) (h : List Parameter × Option Annotation) (j : ℕ) → read_heading s i ≡ Some (h, j) → IsHeading s h.0 h.1 i j
unfolding read_heading
heading_ok s i head j h =
    let o = when_ok (is_mark m.OpenParenthesis (kind s i)) (read_parameters s (i + 1) >>= λ p. read_optional_result s p.1 >>= λ g. Some ((p.0, g.0), g.1)) (head, j) h in
    let p = bind_ok (read_parameters s (i + 1)) (λ p. read_optional_result s p.1 >>= λ g. Some ((p.0, g.0), g.1)) (head, j) o.1 in
    let g = bind_ok (read_optional_result s p.0.1) (λ g. Some ((p.0.0, g.0), g.1)) (head, j) p.2 in
    moved (λ (z : (List Parameter × Option Annotation) × ℕ). IsHeading s z.0.0 z.0.1 i z.1) ((p.0.0, g.0.0), g.0.1) (head, j) g.2
    (p.0.1, mark_is m.OpenParenthesis (kind s i) o.0, parameters_ok s (i + 1) p.0.0 p.0.1 p.1, optional_result_ok s p.0.1 g.0.0 g.0.1 g.1)

pub arrow_heading_ok : (s : Source) (i : ℕ) (h : List Parameter × Option Annotation) (j : ℕ) → read_arrow_heading s i ≡ Some (h, j) → (n : ℕ) × IsHeading s h.0 h.1 i n × IsMark s n m.Arrow × (j ≡ n + 1)
unfolding read_arrow_heading
arrow_heading_ok s i head j h =
    let r = bind_ok (read_heading s i) (λ h. when (is_mark m.Arrow (kind s h.1)) (Some (h.0, h.1 + 1))) (head, j) h in
    let a = when_ok (is_mark m.Arrow (kind s r.0.1)) (Some (r.0.0, r.0.1 + 1)) (head, j) r.2 in
    moved (λ (z : (List Parameter × Option Annotation) × ℕ). (n : ℕ) × IsHeading s z.0.0 z.0.1 i n × IsMark s n m.Arrow × (z.1 ≡ n + 1)) (r.0.0, r.0.1 + 1) (head, j) a.1
    (r.0.1, heading_ok s i r.0.0 r.0.1 r.1, mark_is m.Arrow (kind s r.0.1) a.0, refl)

begins_by : (s : Source) (i : ℕ) (r : Option ((List Parameter × Option Annotation) × ℕ)) → read_arrow_heading s i ≡ r → is_found r ≡ true → (params : List Parameter) × (gives : Option Annotation) × (n : ℕ) × IsHeading s params gives i n × IsMark s n m.Arrow
begins_by s i None e h = absurd (false≢true h)
begins_by s i (Some r) e h = let a = arrow_heading_ok s i r.0 r.1 e in (r.0.0, r.0.1, a.0, a.1, a.2)

pub begins_arrow_ok : (s : Source) (i : ℕ) → begins_arrow s i ≡ true → (params : List Parameter) × (gives : Option Annotation) × (n : ℕ) × IsHeading s params gives i n × IsMark s n m.Arrow
unfolding begins_arrow
begins_arrow_ok s i h = begins_by s i (read_arrow_heading s i) refl h
