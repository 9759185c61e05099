-- Temporaries into scratch registers and back, in the running function's frame.
use Rattle.std.proofs.Common.{◌≡◌, ◌≢◌, ℕ, ◌<◌, ◌^◌, List, length, Bool, true, false, nat_eq, inl, inr, refl, sym, ap, ◌∙◌, subst, arith, slice_index}
use Rattle.std.proofs.lemmas.Bool.{cases_eq}
use Rattle.flat_ir.specs.declared.ops.Function.{Function}
use Rattle.flat_ir.specs.WellFormed.{temporaries}
use Rattle.register_assign.specs.declared.places.Place.{Place}
use Rattle.register_assign.specs.Sound.{IsWithin}
use Rattle.thumb_layout.specs.Pieces.{Places}
use Rattle.thumb_emit.specs.Frame.{from_place, result_in, brings, keeps, lands}
use Rattle.sts_meaning.specs.Values.{Value, with_entry}
use Rattle.placed_frames.proofs.Laws.{View, with_low, puts as running_puts, room, get, IsRoom}
use Rattle.placed_frames.specs.Frames.{Frame, Running}
use Rattle.emit_simulation.proofs.Laid.{Flows, store_of}
use Rattle.emit_simulation.proofs.Leaving.{StandsIn}
use Rattle.emit_simulation.proofs.Placed.{gets, brings_flows, brought, keeps_flows, kept_view, put_result, lands_flows, landed_view, store_landed}

entry_apart : (to t : ℕ) (value : Value) (temps : ℕ → Value) → (t ≡ to → ⊥) → with_entry to value temps t ≡ temps t
entry_apart to t value temps n = let e : nat_eq t to ≡ false = grind arith in rw e refl

module _ (flash : List ℕ) (p : Places) (Is : Value → ℕ → Type 0) (small : (v : Value) (w : ℕ) → Is v w → w < 2 ^ 32) (code : List Function)
    (places : ℕ → ℕ → Place) (return_to : List (Frame Value) → ℕ)
    (fn : Function) (place : ℕ → Place) (inside : (t : ℕ) → t < temporaries fn → IsWithin fn (place t)) (need : ℕ → Type 0) (temps : ℕ → Value)
    (fs : List (Frame Value)) (v : View)
    (x : Running Is code places return_to fn place need temps fs (store_of v)) where
  pub at_room : IsRoom fn (store_of v)
  at_room = room Is code places return_to fn place need temps fs (store_of v) x

  -- the word of a temporary
  abbrev pub word_of : ℕ → ℕ
  word_of t = get fn (place t) (store_of v)

  pub means_word : (t : ℕ) → t < temporaries fn → need t → Is (temps t) (word_of t)
  means_word t l n = (x.frame).temporary t l n

  pub small_word : (t : ℕ) → t < temporaries fn → need t → word_of t < 2 ^ 32
  small_word t l n = small (temps t) (word_of t) (means_word t l n)

  -- a temporary that is needed, into a scratch register of what is seen later with the same frames
  pub reads : (t rd : ℕ) (u : View) → t < temporaries fn → need t → rd < 4 → store_of u ≡ store_of v → Flows flash p (from_place fn rd (place t)) u
      (with_low rd (word_of t) u)
  reads t rd u l n m e = gets flash p fn (place t) rd (word_of t) u (omega arith) (inside t l) (subst (IsRoom fn) (sym e) at_room) (ap (get fn (place t)) e)
      (small_word t l n)

  -- it comes into its register
  pub brings_read : (t rd : ℕ) (u : View) → t < temporaries fn → need t → rd < 4 → store_of u ≡ store_of v → Flows flash p (brings fn rd (place t)) u
      (brought rd (place t) (word_of t) u)
  brings_read t rd u l n m e = brings_flows flash p fn (place t) rd (word_of t) u m (inside t l) (subst (IsRoom fn) (sym e) at_room) (ap (get fn (place t)) e)
      (small_word t l n)

  -- a result goes from its register to its place
  pub keeps_last : (b : Bool) (to w : ℕ) (u : View) → to < temporaries fn → StandsIn (result_in b (place to)) w v u → w < 2 ^ 32
      → Flows flash p (keeps fn b (place to)) u (kept_view fn b (place to) w u)
  keeps_last b to w u l e m = keeps_flows flash p fn b (place to) w v u (inside to l) at_room e m

  -- the frames hold what is needed behind a value, wherever that was put, or where it isn't needed
  runs_by : (b : Bool) (need' : ℕ → Type 0) (to w : ℕ) (value : Value) → to < temporaries fn → Is value w → (b ≡ true → need' to → ⊥)
      → ((t : ℕ) → t < temporaries fn → t ≢ to → need' t → need t × (place t ≢ place to))
      → Running Is code places return_to fn place need' (with_entry to value temps) fs (put_result fn b (place to) w (store_of v))
  runs_by true need' to w value l i d g =
      let fr = x.frame in record {
        four = x.four;
        frame = record {
          temporary = λ t lt n. elim (cases_eq t to) [
            | inl s ↦ absurd (d refl (subst need' s n))
            | inr o ↦ subst (λ y. Is y (word_of t)) (sym (entry_apart to t value temps o)) (fr.temporary t lt (g t lt o n).0)
          ];
          link = fr.link;
          params = fr.params;
          small = fr.small;
        };
        above = x.above;
      }
  runs_by false need' to w value l i d g = running_puts Is code places return_to fn place need need' temps fs to value w (store_of v) i (small value w i) inside l g x

  -- what is needed of the frames stands there behind a value
  pub runs_with : (b : Bool) (need' : ℕ → Type 0) (to w : ℕ) (value : Value) (u : View) → to < temporaries fn
      → store_of u ≡ put_result fn b (place to) w (store_of v) → Is value w → (b ≡ true → need' to → ⊥)
      → ((t : ℕ) → t < temporaries fn → t ≢ to → need' t → need t × (place t ≢ place to))
      → Running Is code places return_to fn place need' (with_entry to value temps) fs (store_of u)
  runs_with b need' to w value u l e i d g =
      subst (λ q. Running Is code places return_to fn place need' (with_entry to value temps) fs q) (sym e) (runs_by b need' to w value l i d g)

  -- the word in r0 is put, where the frames are the same, unless nobody reads it
  abbrev pub behind : Bool → ℕ → ℕ → View → View
  behind b to w u = landed_view fn b (place to) w u

  pub lands_last : (b : Bool) (to w : ℕ) (u : View) → to < temporaries fn → store_of u ≡ store_of v → (b ≡ false → slice_index u.low 0 ≡ w) → w < 2 ^ 32
      → Flows flash p (lands fn b (place to)) u (behind b to w u)
  lands_last b to w u l e f m = lands_flows flash p fn b (place to) w u (inside to l) (subst (IsRoom fn) (sym e) at_room) f m

  pub runs_on : (b : Bool) (need' : ℕ → Type 0) (to w : ℕ) (value : Value) (u : View) → to < temporaries fn → store_of u ≡ store_of v → length u.low ≡ 13
      → Is value w → (b ≡ true → need' to → ⊥)
      → ((t : ℕ) → t < temporaries fn → t ≢ to → need' t → need t × (place t ≢ place to))
      → Running Is code places return_to fn place need' (with_entry to value temps) fs (store_of (behind b to w u))
  runs_on b need' to w value u l e n i d g =
      runs_with b need' to w value (behind b to w u) l (store_landed fn b (place to) w u (inside to l) n ∙ ap (put_result fn b (place to) w) e) i d g
