-- What a class writes, told by the class of other boards that its boards implement.
use Rattle.std.specs.Prelude.{◌≡◌, ℕ, ◌*◌, ◌≤◌, List}
use Rattle.board_world.specs.Observations.{ByteList}
use Rattle.class_world.specs.Classes.{Member, Class, Played}
use Rattle.class_world.specs.Implementing.{class_of}
use Rattle.class_steps.specs.Texts.{boards_now, HasWholeText, HasCutText}

-- No board of a class has made more than so many steps; one, which goes on, has made one at least for each `bound` of them, and this is the class's text.
pub record HasTextCutWithin {A S : Type 0} (C : Class A S) (bound budget : ℕ) (text : ByteList) : Type 0 where
  pub has : HasCutText C budget text
  pub at_least : (n : ℕ) → bound * n ≤ budget → n ≤ has.here.steps

module _ {A S C D : Type 0} where
  -- The text of these runs is the whole one of a class of the other boards, whose runs come to the same.
  pub record MeansWhole (members : List (Member A S)) (L : Class C D) (budget : ℕ) (text : ByteList)
      (runs : List (Played C D)) : Type 0 where
    pub has : HasWholeText (class_of members L) budget text
    pub same : boards_now L.until has.runs ≡ boards_now L.until runs

  -- The text is one of the class of the other boards, cut within the budget.
  abbrev pub MeansCut : (bound : ℕ) → List (Member A S) → Class C D → ℕ → ByteList → Type 0
  MeansCut bound members L budget text = HasTextCutWithin (class_of members L) bound budget text
