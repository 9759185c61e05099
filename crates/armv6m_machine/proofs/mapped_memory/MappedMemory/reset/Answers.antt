use Rattle.std.proofs.Common.{◌≡◌, ◌∙◌, ℕ, List, refl, ap}
use Rattle.thumb_code.specs.Map.{flash_word}
use Rattle.thumb_code.specs.Machine.{Ram}
use Rattle.armv6m_machine.proofs.mapped_memory.MappedMemory.reset.Goals as goal

abbrev ram : List ℕ → List ℕ → List ℕ → List ℕ → ℕ → Ram
ram f g a s b = record { flash = f; globals = g; arena = a; stack = s; base = b }

same : (f g a s f' g' a' s' : List ℕ) (b b' : ℕ) → f ≡ f' → g ≡ g' → a ≡ a' → s ≡ s' → b ≡ b' → ram f g a s b ≡ ram f' g' a' s' b'
same f g a s f' g' a' s' b b' o p q r e = rw (o, p, q, r, e) refl

pub returns : goal.returns
returns c =
    let f = c.in_ok-flash.ensures in
    same _ _ _ _ _ _ _ _ _ _ f c.in_ok-zeros.ensures c.in_ok-zeros-2.ensures c.in_ok-zeros-3.ensures (c.word-base.ensures ∙ ap (λ f. flash_word f 0) f)
