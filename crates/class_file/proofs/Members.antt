-- The members of boards, losses and classes.
use Rattle.std.proofs.Common.{◌≡◌, ℕ, Bool, true, false, IsSome, Option, Some, None, List, [], ◌∷◌, refl, sym, subst, codes}
use Rattle.serde_json.specs.Data.{Data}
use Rattle.serde_json.specs.Find.{get}
use Rattle.board_world.specs.Limits.{end_limit}
use Rattle.event_script.specs.Names.{HasExactly}
use Rattle.event_script.specs.Trees.{whole, text_of, has_members, only_if, list_of}
use Rattle.event_script.proofs.Laws.{whole-there, text-there, list-there, two, three, exactly, distinct}
use Rattle.class_file.specs.declared.class.Names.{Names}
use Rattle.class_file.specs.declared.class.Loss.{Loss}
use Rattle.class_file.specs.declared.class.ClassFile.{ClassFile}
use Rattle.class_file.specs.Limits.{last_board}
use Rattle.class_file.specs.Form.{names_with, names_of, loss_with, loss_of, class_with, class_of}

-- what there is is there
there : {X : Type 0} (o : Option X) (x : X) → o ≡ Some x → IsSome o
there o x e = subst (λ p. IsSome p) (sym e) refl

module _ (d : Data) where
  whole-member : (most n : ℕ) (name : List ℕ) → whole most name d ≡ Some n → IsSome (get name d)
  whole-member most n name e = whole-there most (get name d) (there (whole most name d) n e)

  text-member : (text name : List ℕ) → text_of name d ≡ Some text → IsSome (get name d)
  text-member text name e = text-there (get name d) (there (text_of name d) text e)

  list-member : {X : Type 0} (read : Data → Option X) (xs : List X) (name : List ℕ) → list_of read name d ≡ Some xs → IsSome (get name d)
  list-member read xs name e = list-there read (get name d) (there (list_of read name d) xs e)

  pub names-members : (n : Names) → names_of d ≡ Some n → HasExactly (codes "program" ∷ codes "script" ∷ []) d
  names-members n h = by_parts (has_members 2 d) (text_of (codes "program") d) (text_of (codes "script") d) refl refl refl h
    where
      by_parts : (m : Bool) (p s : Option (List ℕ)) → has_members 2 d ≡ m → text_of (codes "program") d ≡ p → text_of (codes "script") d ≡ s → only_if m (names_with p s) ≡ Some n
          → HasExactly (codes "program" ∷ codes "script" ∷ []) d
      by_parts true (Some p) (Some s) e f g k =
          exactly (codes "program" ∷ codes "script" ∷ []) d (distinct (codes "program" ∷ codes "script" ∷ []) refl) e
          (two d (codes "program") (codes "script") (text-member p (codes "program") f) (text-member s (codes "script") g))
      by_parts true (Some p) None e f g k = absurd (cc)
      by_parts true None s e f g k = absurd (cc)
      by_parts false p s e f g k = absurd (cc)

  pub loss-members : (l : Loss) → loss_of d ≡ Some l → HasExactly (codes "at" ∷ codes "from" ∷ codes "to" ∷ []) d
  loss-members l h =
      by_parts (has_members 3 d) (whole end_limit (codes "at") d) (whole last_board (codes "from") d) (whole last_board (codes "to") d) refl refl refl refl h
    where
      by_parts : (m : Bool) (t a b : Option ℕ) → has_members 3 d ≡ m → whole end_limit (codes "at") d ≡ t → whole last_board (codes "from") d ≡ a → whole last_board (codes "to") d ≡ b
          → only_if m (loss_with t a b) ≡ Some l → HasExactly (codes "at" ∷ codes "from" ∷ codes "to" ∷ []) d
      by_parts true (Some t) (Some a) (Some b) e f g i k =
          exactly (codes "at" ∷ codes "from" ∷ codes "to" ∷ []) d (distinct (codes "at" ∷ codes "from" ∷ codes "to" ∷ []) refl) e
          (three d (codes "at") (codes "from") (codes "to") (whole-member end_limit t (codes "at") f) (whole-member last_board a (codes "from") g) (whole-member last_board b (codes "to") i))
      by_parts true (Some t) (Some a) None e f g i k = absurd (cc)
      by_parts true (Some t) None b e f g i k = absurd (cc)
      by_parts true None a b e f g i k = absurd (cc)
      by_parts false t a b e f g i k = absurd (cc)

  pub class-members : (c : ClassFile) → class_of d ≡ Some c → HasExactly (codes "end" ∷ codes "boards" ∷ codes "lose" ∷ []) d
  class-members c h =
      by_parts (has_members 3 d) (whole end_limit (codes "end") d) (list_of names_of (codes "boards") d) (list_of loss_of (codes "lose") d) refl refl refl refl h
    where
      by_parts : (m : Bool) (t : Option ℕ) (bs : Option (List Names)) (ls : Option (List Loss)) → has_members 3 d ≡ m → whole end_limit (codes "end") d ≡ t
          → list_of names_of (codes "boards") d ≡ bs → list_of loss_of (codes "lose") d ≡ ls → only_if m (class_with t bs ls) ≡ Some c
          → HasExactly (codes "end" ∷ codes "boards" ∷ codes "lose" ∷ []) d
      by_parts true (Some t) (Some bs) (Some ls) e f g i k =
          exactly (codes "end" ∷ codes "boards" ∷ codes "lose" ∷ []) d (distinct (codes "end" ∷ codes "boards" ∷ codes "lose" ∷ []) refl) e
          (three d (codes "end") (codes "boards") (codes "lose") (whole-member end_limit t (codes "end") f) (list-member names_of bs (codes "boards") g) (list-member loss_of ls (codes "lose") i))
      by_parts true (Some t) (Some bs) None e f g i k = absurd (cc)
      by_parts true (Some t) None ls e f g i k = absurd (cc)
      by_parts true None bs ls e f g i k = absurd (cc)
      by_parts false t bs ls e f g i k = absurd (cc)
