-- Records that keep the rules, one more and one less.
use Rattle.std.proofs.Common.{◌≡◌, ◌<◌, ◌||◌, Bool, true, false, List, [], ◌∷◌, ◌++◌, None, refl, sym, ap, ◌∙◌}
use Rattle.std.proofs.lemmas.Bool.{false≢true}
use Rattle.hex_image.specs.declared.flash.Base.TheVariants.{Zero}
use Rattle.hex_image.specs.Records.{Record}
use Rattle.hex_image.specs.Image.{Cell, base_behind, byte_at, given}
use Rattle.hex_image.specs.Spells.{flash_size, is_end, has_end, EndsLast, AreSound, base_after, cells_fault}
use Rattle.hex_image.proofs.ListLemmas.{or_false, all_append, all_front, all_back}
use Rattle.hex_image.proofs.GivenLemmas.{AreOnce, AreOnce-append, AreOnce-front, AreOnce-back, AreOnce-apart, distinct_from_once, once_from_distinct}
use Rattle.hex_image.proofs.ProgressLemmas.{given-append, given-push, new_cells, no_fault, fault_free}

pub EndsLast-push : (records : List Record) (r : Record) → EndsLast records → has_end records ≡ false → EndsLast (records ++ r ∷ [])
EndsLast-push [] r ends h = (λ e. refl, tt)
EndsLast-push (x ∷ records) r ends h =
    let parts = or_false (is_end x) (has_end records) h in
    (λ e. absurd (false≢true (sym parts.0 ∙ e)), EndsLast-push records r ends.1 parts.1)

not_nil : (records rest : List Record) (r : Record) → records ++ r ∷ rest ≡ [] → ⊥
not_nil [] rest r e = cc e
not_nil (x ∷ records) rest r e = cc e

-- what another record follows has no end record
ends_before : (records rest : List Record) (r : Record) → EndsLast (records ++ r ∷ rest) → has_end records ≡ false
ends_before [] rest r h = refl
ends_before (x ∷ records) rest r h = go (is_end x) refl (ends_before records rest r h.1)
  where
    go : (b : Bool) → is_end x ≡ b → has_end records ≡ false → (is_end x || has_end records) ≡ false
    go true e k = absurd (not_nil records rest r (h.0 e))
    go false e k = ap (λ b. b || has_end records) e ∙ k

pub AreSound-nil : AreSound []
AreSound-nil = record { ends_last = tt; in_flash = tt; once = distinct_from_once [] tt }

-- one more record that breaks no rule
pub AreSound-push : (records : List Record) (r : Record) → AreSound records → has_end records ≡ false → cells_fault (given Zero records) (new_cells records r) ≡ None → AreOnce (new_cells records r) → AreSound (records ++ r ∷ [])
AreSound-push records r sound open' fault once =
    let old : List Cell = given Zero records in
    let new : List Cell = new_cells records r in
    let keeps = no_fault old new fault in
    let e = given-push records r in
    record {
      ends_last = EndsLast-push records r sound.ends_last open';
      in_flash = rw e (all_append (λ (c : Cell). c.at < flash_size) old new sound.in_flash keeps.0);
      once = rw e (distinct_from_once (old ++ new) (AreOnce-append old new (once_from_distinct old sound.once) once keeps.1));
    }

-- what a record that others follow keeps, behind those before it
pub record Kept (records : List Record) (r : Record) : Type 0 where
  pub open_end : has_end records ≡ false
  pub fault : cells_fault (given Zero records) (new_cells records r) ≡ None
  pub once : AreOnce (new_cells records r)

pub kept_before : (records rest : List Record) (r : Record) → AreSound (records ++ r ∷ rest) → Kept records r
kept_before records rest r sound =
    let old : List Cell = given Zero records in
    let new : List Cell = new_cells records r in
    let later : List Cell = given (base_behind (base_after records) r) rest in
    let e : given Zero (records ++ r ∷ rest) ≡ old ++ (new ++ later) = given-append Zero records (r ∷ rest) in
    let low = all_front (λ (c : Cell). c.at < flash_size) new later (all_back (λ (c : Cell). c.at < flash_size) old (new ++ later) (rw e at sound.in_flash)) in
    let once = once_from_distinct (old ++ (new ++ later)) (rw e at sound.once) in
    record {
      open_end = ends_before records rest r sound.ends_last;
      fault = fault_free old new low (all_front (λ (c : Cell). byte_at old c.at ≡ None) new later (AreOnce-apart old (new ++ later) once));
      once = AreOnce-front new later (AreOnce-back old (new ++ later) once);
    }
