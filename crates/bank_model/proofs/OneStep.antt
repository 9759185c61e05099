-- One step over one RAM, and over the bank that it shows.
use Rattle.std.proofs.Common.{◌≡◌, ℕ, List, [], ◌++◌, replicate, Bool, true, false, refl, sym, ap, ◌∙◌, subst, arith}
use Rattle.thumb_code.specs.declared.register_file.Registers.{Registers}
use Rattle.thumb_code.specs.Effect.{effect}
use Rattle.thumb_code.specs.Memory.{Executed, Done, Asked, Stopped, execute}
use Rattle.thumb_code.specs.Map.{arena_words, is_base}
use Rattle.thumb_code.specs.Run.{DoesTheSame, over_moving}
use Rattle.thumb_code.specs.Step.{Fetched, Found, Missed, fetched, stepped_at, ran}
use Rattle.thumb_code.specs.Machine.{State, step, reset, base_of, Ram, ram_memory}
use Rattle.bank_model.specs.Bank.{Bank, bank_memory, bank_move, bank_step}
use Rattle.bank_model.specs.Standing.{FollowsStep, Shows, AgreesWithBank}
use Rattle.bank_model.proofs.AboveBase.{IsBase, base_good}
use Rattle.bank_model.proofs.RamSteps.{Leaves, execute_leaves}
use Rattle.bank_model.proofs.FollowsRam.{bank_follows_instruction}

placed_follows : (image : List ℕ) (at : ℕ) (m : Ram) (x : Executed Ram) (f : List ℕ → Executed (Bank × List ℕ)) → m.flash ≡ image → Leaves m x → DoesTheSame Shows x f
    → FollowsStep (AgreesWithBank image) (stepped_at at x) (λ rest. stepped_at at (f rest))
placed_follows image at m (Done r t) f e l p =
    (p.0, record { flash = l.flash ∙ e; bank_flash = p.1.flash ∙ (l.flash ∙ e); base = p.1.base; shows = λ b. p.1 }, λ rest. ap (stepped_at at) (p.2 rest))
placed_follows image at m (Asked n r t) f e l p =
    (p.0, record { flash = l.flash ∙ e; bank_flash = p.1.flash ∙ (l.flash ∙ e); base = p.1.base; shows = λ b. p.1 }, λ rest. ap (stepped_at at) (p.2 rest))
placed_follows image at m (Stopped k) f e l p = λ rest. ap (stepped_at at) (p rest)

abbrev Steps : List ℕ → Registers → Ram → Bank → Fetched → Fetched → Type 0
Steps image r m b x y =
    (used : List ℕ) × FollowsStep (AgreesWithBank image) (ran (execute ram_memory m) r x) (λ rest. ran (over_moving bank_memory bank_move r (b, used ++ rest)) r y)

found_follows : (image : List ℕ) (r : Registers) (m : Ram) (b : Bank) → m.flash ≡ image → Shows r.sp m b → (x : Fetched) → Steps image r m b x x
found_follows image r m b e h (Found i next) =
    let f = bank_follows_instruction i next r m b h in
    (f.0, placed_follows image r.pc m (execute ram_memory m (effect next r i)) _ e (execute_leaves m (effect next r i)) f.1)
found_follows image r m b e h (Missed k at) = ([], λ rest. refl)

same_fetched : (image : List ℕ) (r : Registers) (m : Ram) (b : Bank) (x y : Fetched) → x ≡ y → Steps image r m b x x → Steps image r m b x y
same_fetched image r m b x y e h = subst (λ z. Steps image r m b x z) e h

fetched_as : (f g : List ℕ) (b c pc : ℕ) → f ≡ g → b ≡ c → fetched f b pc ≡ fetched g c pc
fetched_as f g b c pc p q = ap (λ x. fetched x b pc) p ∙ ap (λ x. fetched g x pc) q

at_base : (image : List ℕ) (r : Registers) (m : Ram) (b : Bank) → AgreesWithBank image r.sp m b → (t : Bool) → is_base m.base ≡ t
    → Steps image r m b (fetched m.flash m.base r.pc) (fetched m.flash m.base r.pc)
at_base image r m b h true e = found_follows image r m b h.flash (h.shows e) (fetched m.flash m.base r.pc)
at_base image r m b h false e = rw e ([], λ rest. refl)

-- One step over one RAM and over a bank that agrees.
pub step_follows : (image : List ℕ) (s : State) (b : Bank) → AgreesWithBank image s.registers.sp s.memory b
    → (used : List ℕ) × FollowsStep (AgreesWithBank image) (step s) (λ rest. bank_step s.registers (b, used ++ rest))
step_follows image s b h =
    same_fetched image s.registers s.memory b _ _ (fetched_as s.memory.flash b.flash s.memory.base b.base s.registers.pc (h.flash ∙ sym h.bank_flash) (sym h.base))
    (at_base image s.registers s.memory b h (is_base s.memory.base) refl)

-- The bank with which main's fiber begins.
abbrev first_bank : List ℕ → Bank
first_bank image = record { flash = image; globals = replicate 256 0; arena = replicate arena_words 0; base = base_of image; words = [] }

first_shows : (image : List ℕ) → IsBase (base_of image) → Shows (base_of image) (reset image).memory (first_bank image)
first_shows image h = record {
  flash = refl;
  globals = refl;
  arena = refl;
  base = refl;
  aligned = h.aligned;
  low = h.low;
  high = h.high;
  size = refl;
  sp_is = omega arith;
  words = record { within = omega (arith, h.low, h.high); same = λ k l. absurd (omega arith) };
}

-- The RAM at reset and main's fiber.
pub reset_agrees : (image : List ℕ) → AgreesWithBank image (base_of image) (reset image).memory (first_bank image)
reset_agrees image = record {
  flash = refl;
  bank_flash = refl;
  base = refl;
  shows = λ e. first_shows image (base_good (base_of image) e);
}
