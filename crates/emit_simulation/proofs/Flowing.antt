-- Straight pieces, and branches.
use Rattle.std.proofs.Common.{suc, ◌≡◌, ℕ, ◌+◌, ◌<◌, List, [], ◌∷◌, length, true, false, Some, refl, ap, ◌∙◌, subst, arith, slice_get}
use Rattle.thumb_code.specs.declared.register_file.Registers.{Registers}
use Rattle.thumb_code.specs.Effect.{ends, Goes}
use Rattle.thumb_code.specs.Memory.{Done}
use Rattle.thumb_code.specs.Step.{Fetched, stepped_at}
use Rattle.thumb_code.specs.Run.{Still}
use Rattle.bank_model.specs.Bank.{Bank}
use Rattle.thumb_layout.specs.declared.pieces.Piece.{Piece}
use Rattle.thumb_layout.specs.declared.pieces.Piece.TheVariants.{Plain, Label, Go, Number, Address}
use Rattle.thumb_layout.specs.Pieces.{Places, piece_effect, goes_on, is_taken}
use Rattle.thumb_layout.specs.Holds.{cost, Means}
use Rattle.thumb_layout.proofs.Laws.{silent_add, silent_one, reaches_add, ComesSilently}
use Rattle.thumb_emit.specs.Bounds.{total_cost}
use Rattle.placed_frames.proofs.Laws.{View, registers_of, bank_of, At, does, at_view, quiet_does}
use Rattle.emit_simulation.proofs.Laid.{Fm, over, Laid, Flows, OfInstr, OfLabel, OfNumber, OfAddress, AllFlow, step_of, steps_of, Comes}

-- a piece whose effect goes on is gone through
pub means_goes : (fetch : ℕ → Fetched) (p : Places) (i : ℕ) (x : Piece) (s : Registers) (t : Fm) (q : Registers) (t' : Fm) → Means over fetch p i x s t
    → over s t (piece_effect p i s x) ≡ Done q t' → ComesSilently over fetch 1 (cost x) s t q t'
means_goes fetch p i x s t q t' m e =
    let k = m.few in
    record {
      count = m.before + 1;
      some = omega arith;
      few = omega arith;
      silent = silent_add over fetch m.before 1 s t m.last t q t' m.silent (silent_one over fetch m.last t q t' (m.does ∙ ap (stepped_at m.last.pc) e));
    }

module _ (fetch : ℕ → Fetched) (flash : List ℕ) (p : Places) (pieces : List Piece) (laid : Laid fetch flash p pieces) where
  abbrev pub To : (least most i j : ℕ) → View → View → Registers → Bank → List ℕ → Type 0
  To least most i j v v' s b free = Comes fetch p least most i j v v' s b free

  pub each_goes : (i : ℕ) (x : Piece) → slice_get pieces i ≡ Some x → 0 < cost x → (s : Registers) (t : Fm) (q : Registers) (t' : Fm) → s.pc ≡ p.at i
      → At flash s.sp t.0 → over s t (piece_effect p i s x) ≡ Done q t' → ComesSilently over fetch 1 (cost x) s t q t'
  each_goes i x g c s t q t' e h d = means_goes fetch p i x s t q t' (laid.each i x g c s t e h) d

  -- one behind the other
  pub then : (l1 h1 l2 h2 i j k : ℕ) (v m v' : View) (s : Registers) (b : Bank) (free : List ℕ) → (c : To l1 h1 i j v m s b free) → To l2 h2 j k m v'
      (record s { lr = c.link }) b free → To (l1 + l2) (h1 + h2) i k v v' s b free
  then l1 h1 l2 h2 i j k v m v' s b free c d = record {
    link = d.link;
    long = d.long;
    reach = reaches_add over fetch l1 h1 l2 h2 (registers_of v (p.at i) s) (bank_of v b, free) (registers_of m (p.at j) (record s { lr = c.link }))
        (bank_of m b, free) (registers_of v' (p.at k) (record s { lr = d.link })) (bank_of v' b, free) c.reach d.reach;
  }

  -- a piece whose effect is this goes on to the next
  pub goes_next : (i : ℕ) (x : Piece) (v v' : View) (s : Registers) (b : Bank) (free : List ℕ) → slice_get pieces i ≡ Some x → 0 < cost x → goes_on x ≡ true
      → At flash s.sp b → length v.words ≡ length b.words → length v'.words ≡ length b.words
      → over (registers_of v (p.at i) s) (bank_of v b, free) (piece_effect p i (registers_of v (p.at i) s) x) ≡ Done (registers_of v' (p.behind i) s)
      (bank_of v' b, free) → To 1 (cost x) i (i + 1) v v' s b free
  goes_next i x v v' s b free g c o h l l' e = record {
    link = s.lr;
    long = l';
    reach = subst (λ a. ComesSilently over fetch 1 (cost x) (registers_of v (p.at i) s) (bank_of v b, free) (registers_of v' a s) (bank_of v' b, free))
        (laid.next i x g o)
        (each_goes i x g c (registers_of v (p.at i) s) (bank_of v b, free) (registers_of v' (p.behind i) s) (bank_of v' b, free) refl
        (at_view flash s.sp v b l h) e);
  }

  pub flows_one : (i : ℕ) (x : Piece) (v v' : View) (s : Registers) (b : Bank) (free : List ℕ) → slice_get pieces i ≡ Some x → At flash s.sp b
      → length v.words ≡ length b.words → Flows flash p x v v' → To (step_of x) (cost x) i (i + 1) v v' s b free
  flows_one i x v v' s b free g h l (OfInstr y u u' o d) =
      let r = does flash y v v' d (p.behind i) (p.at i) s b free h l in
      goes_next i (Plain y) v v' s b free g (omega arith) o h l r.1 r.0
  flows_one i x v v' s b free g h l (OfLabel k u) = record {
    link = s.lr;
    long = l;
    reach = record { count = 0; some = omega arith; few = omega arith; silent = ap (λ a. Still (registers_of v a s) (bank_of v b, free)) (laid.label i k g) };
  }
  flows_one i x v v' s b free g h l (OfNumber rd n u) =
      goes_next i (Number rd n) v v' s b free g (omega arith) refl h l l (quiet_does flash (bank_of v b) free (registers_of v' (p.behind i) s)
      (at_view flash s.sp v b l h))
  flows_one i x v v' s b free g h l (OfAddress rd w u) =
      goes_next i (Address rd w) v v' s b free g (omega arith) refl h l l (quiet_does flash (bank_of v b) free (registers_of v' (p.behind i) s)
      (at_view flash s.sp v b l h))

  -- STRAIGHT PIECES from piece i on
  pub flows : (xs : List Piece) (i : ℕ) (v v' : View) (s : Registers) (b : Bank) (free : List ℕ)
      → ((n : ℕ) → n < length xs → slice_get pieces (i + n) ≡ slice_get xs n) → At flash s.sp b → length v.words ≡ length b.words
      → AllFlow flash p xs v v' → To (steps_of xs) (total_cost xs) i (i + length xs) v v' s b free
  flows [] i v v' s b free g h l e =
      let z : i ≡ i + 0 = omega arith in
      record {
        link = s.lr;
        long = subst (λ u. length u.words ≡ length b.words) e l;
        reach = record { count = 0; some = omega arith; few = omega arith; silent = (λ k. Still (registers_of (e k) (p.at (z k)) s) (bank_of (e k) b, free)) };
      }
  flows (x ∷ xs) i v v' s b free g h l f =
      let c = flows_one i x v f.0 s b free (ap (slice_get pieces) (omega arith) ∙ g 0 (omega arith)) h l f.1 in
      let d = flows xs (i + 1) f.0 v' (record s { lr = c.link }) b free (λ n m. ap (slice_get pieces) (omega arith) ∙ g (suc n) (omega arith)) h c.long f.2 in
      let z : i + 1 + length xs ≡ i + suc (length xs) = omega arith in
      subst (λ j. To (step_of x + steps_of xs) (cost x + total_cost xs) i j v v' s b free) z
      (then (step_of x) (cost x) (steps_of xs) (total_cost xs) i (i + 1) (i + 1 + length xs) v f.0 v' s b free c d)

  -- A BRANCH that is taken, to piece j
  pub branches : (i j c l : ℕ) (v : View) (s : Registers) (b : Bank) (free : List ℕ) → slice_get pieces i ≡ Some (Go c l) → slice_get pieces j ≡ Some (Label l)
      → is_taken v.flags c ≡ true → At flash s.sp b → length v.words ≡ length b.words → To 1 3 i j v v s b free
  branches i j c l v s b free g g' e h n =
      let r = registers_of v (p.at i) s in
      let q = registers_of v (p.at j) (record s { lr = p.link i s.lr }) in
      let y = laid.labels i c l j g g' in
      record {
        link = p.link i s.lr;
        long = n;
        reach = each_goes i (Go c l) g (omega arith) r (bank_of v b, free) q (bank_of v b, free) refl (at_view flash s.sp v b n h)
            (rw e (ap (λ k. over r (bank_of v b, free) (ends s.sp (Goes (registers_of v (p.at k) (record s { lr = p.link i s.lr }))))) y ∙ quiet_does flash
            (bank_of v b) free q (at_view flash s.sp v b n h)));
      }

  -- one that isn't
  pub passes_by : (i c l : ℕ) (v : View) (s : Registers) (b : Bank) (free : List ℕ) → slice_get pieces i ≡ Some (Go c l) → goes_on (Go c l) ≡ true
      → is_taken v.flags c ≡ false → At flash s.sp b → length v.words ≡ length b.words → To 1 3 i (i + 1) v v s b free
  passes_by i c l v s b free g o e h n =
      goes_next i (Go c l) v v s b free g (omega arith) o h n n (rw e (quiet_does flash (bank_of v b) free (registers_of v (p.behind i) s)
      (at_view flash s.sp v b n h)))
