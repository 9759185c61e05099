-- Types, parameters and headings that are spelled are read.
use Rattle.std.proofs.Common.{◌≡◌, ℕ, zero, suc, ◌+◌, ◌-◌, ◌<◌, ◌≤◌, List, [], ◌∷◌, ◌++◌, length, refl, sym, ap, ◌∙◌, arith, append_assoc}
use Rattle.std.specs.Prelude.{true, false, not, ◌&&◌, Option, Some, None, if◌then◌else◌, slice_get}
use lib.Chars.{codes}
use Rattle.std.proofs.lemmas.Bool.{false≢true, false_from_ne_true}
use Rattle.sts_lexer.specs.declared.marks.Mark.TheVariants as m
use Rattle.sts_syntax.specs.Annotations.{Annotation, Number, Boolean, Text, Nothing, Named, ListOf}
use Rattle.sts_syntax.specs.Trees.{Parameter}
use Rattle.sts_lexer.specs.declared.words.Word.TheVariants as w
use Rattle.sts_grammar.specs.Source.{Source, kind, broken, place, IsMark, IsName, is_mark, is_word}
use Rattle.sts_grammar.specs.Headings.{IsTypeName, IsType, IsResult, HasType, HasResult, IsParameter, MoreParameters, AreParameters, IsArrowBehind}
use Rattle.sts_grammar.specs.Found.{◌>>=◌, when, name_of}
use Rattle.sts_grammar.specs.ReadHeadings.{type_of_entry, type_named, is_pair, wrap_type, read_type, read_result, optional_by, read_optional_type, read_optional_result, read_parameter, parameters_rest, read_more_parameters, read_parameters, read_heading, read_arrow_heading, is_found, begins_arrow, is_arrow_behind}
use Rattle.sts_grammar.proofs.Tokens.{bind_ok, when_ok, true_false, mark_is, has_bytes_no}
use Rattle.sts_grammar.proofs.SoundHeadings.{IsHeading, optional_result_ok}
use Rattle.sts_grammar.proofs.Spans.{Within, mark_in, parameter_spans}

type_named_is : (s : Source) (a : Annotation) (i : ℕ) → IsTypeName s a i → (name : ℕ) × IsName s i name × (type_named s name i ≡ a)
type_named_is s Number i h = (h.0, h.1, ap (λ x. type_of_entry x (Named (place s i) h.0)) h.2)
type_named_is s Boolean i h = (h.0, h.1, ap (λ x. type_of_entry x (Named (place s i) h.0)) h.2)
type_named_is s Text i h = (h.0, h.1, ap (λ x. type_of_entry x (Named (place s i) h.0)) h.2)
type_named_is s (Named at name) i h = (
  name,
  h.1,
  rw (has_bytes_no (slice_get s.names name) (codes "number") h.2, has_bytes_no (slice_get s.names name) (codes "boolean") h.3, has_bytes_no (slice_get s.names name) (codes "string") h.4)
      (ap (λ x. Named x name) (sym h.0)),
)
type_named_is s Nothing i h = absurd h
type_named_is s (ListOf item) i h = absurd h

wrap_at : (s : Source) (n : ℕ) (a : Annotation) (i : ℕ) → 0 < n → is_pair s i ≡ true → wrap_type s n a i ≡ wrap_type s (n - 1) (ListOf a) (i + 2)
unfolding wrap_type
wrap_at s zero a i h p = absurd (omega arith)
wrap_at s (suc n) a i h p =
    let e : suc n - 1 ≡ n = omega arith in
    rw e (ap (λ x. if x then wrap_type s n (ListOf a) (i + 2) else (a, i)) p)

wrap_stop : (s : Source) (n : ℕ) (a : Annotation) (i : ℕ) → is_pair s i ≡ false → wrap_type s n a i ≡ (a, i)
unfolding wrap_type
wrap_stop s zero a i p = refl
wrap_stop s (suc n) a i p = ap (λ x. if x then wrap_type s n (ListOf a) (i + 2) else (a, i)) p

-- the reader of a type reaches j with a
record TypeReaches (s : Source) (i : ℕ) (a : Annotation) (j : ℕ) : Type 0 where
  turns : ℕ
  enough : length s.tokens ≤ turns + j
  is : read_type s i ≡ Some (wrap_type s turns a j)

named_reaches : (s : Source) (a : Annotation) (i j : ℕ) → IsTypeName s a i → j ≡ i + 1 → TypeReaches s i a j
unfolding read_type
named_reaches s a i j h e =
    let n = type_named_is s a i h in
    record {
      turns = length s.tokens;
      enough = omega arith;
      is =
          ap (λ x. name_of x >>= λ name. Some (wrap_type s (length s.tokens) (type_named s name i) (i + 1))) n.1
          ∙ ap (λ x. Some (wrap_type s (length s.tokens) x (i + 1))) n.2
          ∙ ap (λ x. Some (wrap_type s (length s.tokens) a x)) (sym e);
    }

is_pair_yes : (s : Source) (i : ℕ) → IsMark s i m.OpenBracket → broken s i ≡ false → IsMark s (i + 1) m.CloseBracket → is_pair s i ≡ true
is_pair_yes s i a b c = rw (a, b, c) refl

type_reaches : (s : Source) (a : Annotation) (i j : ℕ) → IsType s a i j → TypeReaches s i a j
type_reaches s (ListOf item) i j h =
    let r : TypeReaches s i item h.0 = type_reaches s item i h.0 h.1 in
    let inside : h.0 < length s.tokens = mark_in s h.0 m.OpenBracket h.2 in
    let enough : length s.tokens ≤ r.turns + h.0 = r.enough in
    let e : j ≡ h.0 + 2 = h.5 in
    record {
      turns = r.turns - 1;
      enough = omega arith;
      is =
          r.is ∙ ap Some (wrap_at s r.turns item h.0 (omega arith) (is_pair_yes s h.0 h.2 h.3 h.4))
          ∙ ap (λ x. Some (wrap_type s (r.turns - 1) (ListOf item) x)) (sym e);
    }
type_reaches s Number i j h = named_reaches s Number i j h.0 h.1
type_reaches s Boolean i j h = named_reaches s Boolean i j h.0 h.1
type_reaches s Text i j h = named_reaches s Text i j h.0 h.1
type_reaches s (Named at name) i j h = named_reaches s (Named at name) i j h.0 h.1
type_reaches s Nothing i j h = absurd h.0

pub type_reads : (s : Source) (a : Annotation) (i j : ℕ) → IsType s a i j → is_pair s j ≡ false → read_type s i ≡ Some (a, j)
type_reads s a i j h stop =
    let r : TypeReaches s i a j = type_reaches s a i j h in r.is ∙ ap Some (wrap_stop s r.turns a j stop)

type_not_void : (s : Source) (a : Annotation) (i : ℕ) → IsTypeName s a i → is_word w.Void (kind s i) ≡ false
type_not_void s a i h = let n = type_named_is s a i h in ap (is_word w.Void) n.1

type_begins : (s : Source) (a : Annotation) (i j : ℕ) → IsType s a i j → is_word w.Void (kind s i) ≡ false
type_begins s (ListOf item) i j h = type_begins s item i h.0 h.1
type_begins s Number i j h = type_not_void s Number i h.0
type_begins s Boolean i j h = type_not_void s Boolean i h.0
type_begins s Text i j h = type_not_void s Text i h.0
type_begins s (Named at name) i j h = type_not_void s (Named at name) i h.0
type_begins s Nothing i j h = absurd h.0

type_as_result : (s : Source) (a : Annotation) (i j : ℕ) → IsType s a i j → is_pair s j ≡ false → read_result s i ≡ Some (a, j)
unfolding read_result
type_as_result s a i j h stop =
    ap (λ x. if x then Some (Nothing, i + 1) else read_type s i) (type_begins s a i j h) ∙ type_reads s a i j h stop

pub result_reads : (s : Source) (a : Annotation) (i j : ℕ) → IsResult s a i j → is_pair s j ≡ false → read_result s i ≡ Some (a, j)
unfolding read_result
result_reads s Nothing i j h stop =
    let v : is_word w.Void (kind s i) ≡ true = ap (is_word w.Void) h.0.1 in
    ap (λ x. if x then Some (Nothing, i + 1) else read_type s i) v ∙ ap (λ x. Some (Nothing, x)) (sym h.1)
result_reads s Number i j h stop = type_as_result s Number i j h stop
result_reads s Boolean i j h stop = type_as_result s Boolean i j h stop
result_reads s Text i j h stop = type_as_result s Text i j h stop
result_reads s (Named at name) i j h stop = type_as_result s (Named at name) i j h stop
result_reads s (ListOf item) i j h stop = type_as_result s (ListOf item) i j h stop

-- the token at j doesn't go on with such a type, which may be left out
abbrev pub Stops : Source → Option Annotation → ℕ → Type 0
Stops s None j = is_mark m.Colon (kind s j) ≡ false
Stops s (Some a) j = is_pair s j ≡ false

pub optional_type_reads : (s : Source) (shape : Option Annotation) (i j : ℕ) → HasType s shape i j → Stops s shape j → read_optional_type s i ≡ Some (shape, j)
unfolding read_optional_type
optional_type_reads s None i j h stop =
    let q : is_mark m.Colon (kind s i) ≡ false = ap (λ x. is_mark m.Colon (kind s x)) h ∙ stop in
    ap (λ x. optional_by (read_type s) x i) q ∙ ap (λ x. Some (None, x)) h
optional_type_reads s (Some a) i j h stop =
    let q : is_mark m.Colon (kind s i) ≡ true = ap (is_mark m.Colon) h.0 in
    ap (λ x. optional_by (read_type s) x i) q ∙ ap (λ r. r >>= λ x. Some (Some x.0, x.1)) (type_reads s a (i + 1) j h.1 stop)

pub optional_result_reads : (s : Source) (gives : Option Annotation) (i j : ℕ) → HasResult s gives i j → Stops s gives j → read_optional_result s i ≡ Some (gives, j)
unfolding read_optional_result
optional_result_reads s None i j h stop =
    let q : is_mark m.Colon (kind s i) ≡ false = ap (λ x. is_mark m.Colon (kind s x)) h ∙ stop in
    ap (λ x. optional_by (read_result s) x i) q ∙ ap (λ x. Some (None, x)) h
optional_result_reads s (Some a) i j h stop =
    let q : is_mark m.Colon (kind s i) ≡ true = ap (is_mark m.Colon) h.0 in
    ap (λ x. optional_by (read_result s) x i) q ∙ ap (λ r. r >>= λ x. Some (Some x.0, x.1)) (result_reads s a (i + 1) j h.1 stop)

-- a token that opens no `[` and is no `:` stops any of them
pub not_pair : (s : Source) (j : ℕ) → is_mark m.OpenBracket (kind s j) ≡ false → is_pair s j ≡ false
not_pair s j h = ap (λ x. x && (not (broken s j) && is_mark m.CloseBracket (kind s (j + 1)))) h

pub stops_at : (s : Source) (shape : Option Annotation) (j : ℕ) → is_mark m.OpenBracket (kind s j) ≡ false → is_mark m.Colon (kind s j) ≡ false → Stops s shape j
stops_at s None j h c = c
stops_at s (Some a) j h c = not_pair s j h

parameter_reads : (s : Source) (p : Parameter) (i j : ℕ) → IsParameter s p i j → Stops s p.shape j → read_parameter s i ≡ Some (p, j)
unfolding read_parameter
parameter_reads s p i j h stop =
    ap (λ x. name_of x >>= λ name. read_optional_type s (i + 1) >>= λ t. Some (record { at = place s i; name = name; shape = t.0 }, t.1)) h.1
    ∙ ap (λ r. r >>= λ t. Some (record { at = place s i; name = p.name; shape = t.0 }, t.1)) (optional_type_reads s p.shape (i + 1) j h.2 stop)
    ∙ ap (λ x. Some (record { at = x; name = p.name; shape = p.shape }, j)) (sym h.0)

more_stops : (s : Source) (shape : Option Annotation) (rest : List Parameter) (i j : ℕ) → MoreParameters s rest i j → Stops s shape i
more_stops s shape [] i j h = stops_at s shape i (ap (is_mark m.OpenBracket) h.0) (ap (is_mark m.Colon) h.0)
more_stops s shape (p ∷ rest) i j h = stops_at s shape i (ap (is_mark m.OpenBracket) h.1) (ap (is_mark m.Colon) h.1)

more_at : (s : Source) (n : ℕ) (all : List Parameter) (i : ℕ) → 0 < n → read_more_parameters s n all i ≡ (read_parameter s i >>= λ p. parameters_rest (read_more_parameters s (n - 1)) (all ++ p.0 ∷ []) p.1 (kind s p.1))
unfolding read_more_parameters
more_at s zero all i h = absurd (omega arith)
more_at s (suc n) all i h = let e : suc n - 1 ≡ n = omega arith in rw e refl

more_reads : (s : Source) (rest : List Parameter) (n : ℕ) (all : List Parameter) (p : Parameter) (i k j : ℕ) → IsParameter s p i k → MoreParameters s rest k j → length s.tokens ≤ n + i → read_more_parameters s n all i ≡ Some (all ++ p ∷ rest, j)
more_reads s [] n all p i k j h r f =
    let x : Within s i k = parameter_spans s p i k h in
    more_at s n all i (omega (arith, x.less, x.inside))
    ∙ ap (λ z. z >>= λ p. parameters_rest (read_more_parameters s (n - 1)) (all ++ p.0 ∷ []) p.1 (kind s p.1)) (parameter_reads s p i k h (more_stops s p.shape [] k j r))
    ∙ ap (parameters_rest (read_more_parameters s (n - 1)) (all ++ p ∷ []) k) r.0
    ∙ ap (λ x. Some (all ++ p ∷ [], x)) (sym r.1)
more_reads s (q ∷ rest) n all p i k j h r f =
    let x : Within s i k = parameter_spans s p i k h in
    more_at s n all i (omega (arith, x.less, x.inside))
    ∙ ap (λ z. z >>= λ p. parameters_rest (read_more_parameters s (n - 1)) (all ++ p.0 ∷ []) p.1 (kind s p.1)) (parameter_reads s p i k h (more_stops s p.shape (q ∷ rest) k j r))
    ∙ ap (parameters_rest (read_more_parameters s (n - 1)) (all ++ p ∷ []) k) r.1
    ∙ more_reads s rest (n - 1) (all ++ p ∷ []) q (k + 1) r.0 j r.2 r.3 (omega (arith, x.less, x.inside))
    ∙ ap (λ x. Some (x, j)) (append_assoc all (p ∷ []) (q ∷ rest))

pub parameters_reads : (s : Source) (all : List Parameter) (i j : ℕ) → AreParameters s all i j → read_parameters s i ≡ Some (all, j)
unfolding read_parameters
parameters_reads s [] i j h =
    let c : is_mark m.CloseParenthesis (kind s i) ≡ true = ap (is_mark m.CloseParenthesis) h.0 in
    ap (λ x. if x then Some ([], i + 1) else read_more_parameters s (length s.tokens) [] i) c ∙ ap (λ x. Some ([], x)) (sym h.1)
parameters_reads s (p ∷ rest) i j h =
    let c : is_mark m.CloseParenthesis (kind s i) ≡ false = ap (is_mark m.CloseParenthesis) h.1.1 in
    ap (λ x. if x then Some ([], i + 1) else read_more_parameters s (length s.tokens) [] i) c
    ∙ more_reads s rest (length s.tokens) [] p i h.0 j h.1 h.2 (omega arith)

pub heading_reads : (s : Source) (params : List Parameter) (gives : Option Annotation) (i j : ℕ) → IsHeading s params gives i j → Stops s gives j → read_heading s i ≡ Some ((params, gives), j)
unfolding read_heading
heading_reads s params gives i j h stop =
    let o : is_mark m.OpenParenthesis (kind s i) ≡ true = ap (is_mark m.OpenParenthesis) h.1 in
    ap (λ x. when x (read_parameters s (i + 1) >>= λ p. read_optional_result s p.1 >>= λ g. Some ((p.0, g.0), g.1))) o
    ∙ ap (λ r. r >>= λ p. read_optional_result s p.1 >>= λ g. Some ((p.0, g.0), g.1)) (parameters_reads s params (i + 1) h.0 h.2)
    ∙ ap (λ r. r >>= λ g. Some ((params, g.0), g.1)) (optional_result_reads s gives h.0 j h.3 stop)

pub arrow_heading_reads : (s : Source) (params : List Parameter) (gives : Option Annotation) (i o : ℕ) → IsHeading s params gives i o → IsMark s o m.Arrow → read_arrow_heading s i ≡ Some ((params, gives), o + 1)
unfolding read_arrow_heading
arrow_heading_reads s params gives i o h a =
    ap (λ r. r >>= λ h. when (is_mark m.Arrow (kind s h.1)) (Some (h.0, h.1 + 1))) (heading_reads s params gives i o h (stops_at s gives o (ap (is_mark m.OpenBracket) a) (ap (is_mark m.Colon) a)))
    ∙ ap (λ x. when (is_mark m.Arrow x) (Some ((params, gives), o + 1))) a

pub begins_reads : (s : Source) (params : List Parameter) (gives : Option Annotation) (i o : ℕ) → IsHeading s params gives i o → IsMark s o m.Arrow → begins_arrow s i ≡ true
unfolding begins_arrow
begins_reads s params gives i o h a = ap is_found (arrow_heading_reads s params gives i o h a)

pub behind_reads : (s : Source) (i : ℕ) → IsArrowBehind s i → is_arrow_behind s i ≡ true
unfolding is_arrow_behind
behind_reads s i h =
    ap (λ r. is_found (r >>= λ g. when (is_mark m.Arrow (kind s g.1)) (Some g))) (optional_result_reads s h.0 i h.1 h.2 (stops_at s h.0 h.1 (ap (is_mark m.OpenBracket) h.3) (ap (is_mark m.Colon) h.3)))
    ∙ ap (λ x. is_found {A = Option Annotation × ℕ} (when (is_mark m.Arrow x) (Some (h.0, h.1)))) h.3

found_is : {A : Type 0} (r : Option A) → is_found r ≡ true → (x : A) × (r ≡ Some x)
found_is None h = absurd (false≢true h)
found_is (Some x) h = (x, refl)

behind_sound : (s : Source) (i : ℕ) → is_arrow_behind s i ≡ true → IsArrowBehind s i
unfolding is_arrow_behind
behind_sound s i h =
    let x = found_is (read_optional_result s i >>= λ g. when (is_mark m.Arrow (kind s g.1)) (Some g)) h in
    let r = bind_ok (read_optional_result s i) (λ g. when (is_mark m.Arrow (kind s g.1)) (Some g)) x.0 x.1 in
    let a = when_ok (is_mark m.Arrow (kind s r.0.1)) (Some r.0) x.0 r.2 in
    (r.0.0, r.0.1, optional_result_ok s i r.0.0 r.0.1 r.1, mark_is m.Arrow (kind s r.0.1) a.0)

pub not_behind : (s : Source) (i : ℕ) → ¬ (IsArrowBehind s i) → is_arrow_behind s i ≡ false
not_behind s i h = false_from_ne_true (is_arrow_behind s i) (λ e. h (behind_sound s i e))

pub no_arrow_behind : (s : Source) (i : ℕ) → is_arrow_behind s i ≡ false → ¬ (IsArrowBehind s i)
no_arrow_behind s i h = λ a. true_false (sym (behind_reads s i a) ∙ h)
