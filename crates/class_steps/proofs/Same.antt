-- Two texts of a class are one.
use Rattle.std.proofs.Common.{◌≡◌, ℕ, inl, inr, ap, sym, ◌∙◌}
use Rattle.board_world.specs.Observations.{ByteList}
use Rattle.class_world.specs.Classes.{Class, AreInOrder}
use Rattle.class_world.specs.Lines.{whole_text}
use Rattle.class_world.proofs.Laws.{one_whole, not_both, one_cut}
use Rattle.class_steps.specs.Texts.{HasWholeText, IsTextOf}

module _ {A S : Type 0} (C : Class A S) where
  pub same_whole : (budget more : ℕ) (text other : ByteList) → AreInOrder C.members → HasWholeText C budget text → HasWholeText C more other → text ≡ other
  same_whole budget more text other order h k = h.is ∙ ap (whole_text C.until) (one_whole C h.runs k.runs order h.whole k.whole) ∙ sym k.is

  pub same_text : (budget : ℕ) (text other : ByteList) → AreInOrder C.members → IsTextOf C budget text → IsTextOf C budget other → text ≡ other
  same_text budget text other order (inl h) (inl k) = same_whole budget budget text other order h k
  same_text budget text other order (inl h) (inr k) = absurd (not_both C budget h.runs k.0.before k.0.behind k.0.here order h.whole h.within k.0.cut k.1)
  same_text budget text other order (inr h) (inl k) = absurd (not_both C budget k.runs h.0.before h.0.behind h.0.here order k.whole k.within h.0.cut h.1)
  same_text budget text other order (inr h) (inr k) =
      h.0.is ∙ one_cut C budget h.0.before h.0.behind k.0.before k.0.behind h.0.here k.0.here order h.0.cut k.0.cut h.1 k.1 h.0.within k.0.within ∙ sym k.0.is
