-- The members of entries and of scripts.
use Rattle.std.proofs.Common.{◌≡◌, ℕ, inl, inr, Bool, true, false, if◌then◌else◌, IsSome, Option, Some, None, option_map, option_and_then, List, [], ◌∷◌, pos, refl, sym, ap, subst, codes}
use Rattle.serde_json.specs.Data.{Data}
use Rattle.serde_json.specs.Find.{get, as_number, as_u64, as_str, as_array}
use Rattle.board_world.specs.Limits.{end_limit}
use Rattle.event_script.specs.Limits.{greatest_number}
use Rattle.event_script.specs.declared.script.Act.{Act}
use Rattle.event_script.specs.declared.script.Act.TheVariants.{Down, Up, Raise, Unplug}
use Rattle.event_script.specs.declared.script.Entry.{Entry}
use Rattle.event_script.specs.declared.script.Script.{Script}
use Rattle.event_script.specs.Trees.{at_most, whole, is_text, says, has_members, only_if, items_of, list_of}
use Rattle.event_script.specs.Form.{button_of, raised_with, act_of, entry_with, entry_of, script_with, script_of}
use Rattle.event_script.specs.Names.{IsOneOf, HasExactly, names_of}
use Rattle.event_script.proofs.Exactly.{exactly, distinct}

-- a member that is read is there
pub whole-there : (most : ℕ) (o : Option Data) → IsSome (at_most most (option_and_then as_u64 (option_and_then as_number o))) → IsSome o
whole-there most None h = absurd (cc)
whole-there most (Some d) h = refl

says-there : (text : List ℕ) (o : Option Data) → is_text text (option_and_then as_str o) ≡ true → IsSome o
says-there text None h = absurd (cc)
says-there text (Some d) h = refl

pub text-there : (o : Option Data) → IsSome (option_and_then as_str o) → IsSome o
text-there None h = absurd (cc)
text-there (Some d) h = refl

pub list-there : {X : Type 0} (read : Data → Option X) (o : Option Data) → IsSome (option_and_then (items_of read) (option_and_then as_array o)) → IsSome o
list-there read None h = absurd (cc)
list-there read (Some d) h = refl

button-there : (a b : Bool) (o : Option Data) → (a ≡ true → IsSome o) → (b ≡ true → IsSome o) → (let r : Option ℕ = (if a then Some 1 else if b then Some 2 else None) in IsSome r → IsSome o)
button-there true b o f g h = f refl
button-there false true o f g h = g refl
button-there false false o f g h = absurd (cc)

-- members of two, three or four names
module _ (d : Data) where
  pub three : (x y z : List ℕ) → IsSome (get x d) → IsSome (get y d) → IsSome (get z d) → (k : List ℕ) → IsOneOf k (x ∷ y ∷ z ∷ []) → IsSome (get k d)
  three x y z p q r k (inl e) = subst (λ (n : List ℕ). IsSome (get n d)) (sym e) p
  three x y z p q r k (inr (inl e)) = subst (λ (n : List ℕ). IsSome (get n d)) (sym e) q
  three x y z p q r k (inr (inr (inl e))) = subst (λ (n : List ℕ). IsSome (get n d)) (sym e) r
  three x y z p q r k (inr (inr (inr e))) = absurd e

  pub four : (w x y z : List ℕ) → IsSome (get w d) → IsSome (get x d) → IsSome (get y d) → IsSome (get z d) → (k : List ℕ) → IsOneOf k (w ∷ x ∷ y ∷ z ∷ []) → IsSome (get k d)
  four w x y z o p q r k (inl e) = subst (λ (n : List ℕ). IsSome (get n d)) (sym e) o
  four w x y z o p q r k (inr t) = three x y z p q r k t

  pub two : (x y : List ℕ) → IsSome (get x d) → IsSome (get y d) → (k : List ℕ) → IsOneOf k (x ∷ y ∷ []) → IsSome (get k d)
  two x y p q k (inl e) = subst (λ (n : List ℕ). IsSome (get n d)) (sym e) p
  two x y p q k (inr (inl e)) = subst (λ (n : List ℕ). IsSome (get n d)) (sym e) q
  two x y p q k (inr (inr e)) = absurd e

-- what is known of the members besides `at`, where there is an act
abbrev pub Known : Data → Act → Type 0
Known d (Down b) = (has_members 3 d ≡ true) × IsSome (get (codes "do") d) × IsSome (get (codes "button") d)
Known d (Up b) = (has_members 3 d ≡ true) × IsSome (get (codes "do") d) × IsSome (get (codes "button") d)
Known d (Raise e) = (has_members 4 d ≡ true) × IsSome (get (codes "do") d) × IsSome (get (codes "source") d) × IsSome (get (codes "value") d)
Known d (Unplug p) = (has_members 3 d ≡ true) × IsSome (get (codes "do") d) × IsSome (get (codes "port") d)

module _ (d : Data) where
  press-known : (make : ℕ → Act) (m : Bool) (o : Option ℕ) (a : Act) → ((n : ℕ) → (has_members 3 d ≡ true) → IsSome (get (codes "button") d) → Known d (make n)) → has_members 3 d ≡ m → (IsSome o → IsSome (get (codes "button") d)) → only_if m (option_map make o) ≡ Some a → Known d a
  press-known make true (Some n) a f e g h = (let same : make n ≡ a = cc in subst (Known d) same (f n e (g refl)))
  press-known make true None a f e g h = absurd (cc)
  press-known make false o a f e g h = absurd (cc)

  raise-known : (m : Bool) (s v : Option ℕ) (a : Act) → IsSome (get (codes "do") d) → has_members 4 d ≡ m → (IsSome s → IsSome (get (codes "source") d)) → (IsSome v → IsSome (get (codes "value") d)) → only_if m (raised_with s v) ≡ Some a → Known d a
  raise-known true (Some s) (Some v) a how e f g h =
      (let same : Raise (record { source = pos s; value = pos v }) ≡ a = cc in subst (Known d) same (e, how, f refl, g refl))
  raise-known true (Some s) None a how e f g h = absurd (cc)
  raise-known true None v a how e f g h = absurd (cc)
  raise-known false s v a how e f g h = absurd (cc)

  unplug-known : (m : Bool) (p : Option ℕ) (a : Act) → IsSome (get (codes "do") d) → has_members 3 d ≡ m → (IsSome p → IsSome (get (codes "port") d)) → only_if m (option_map Unplug p) ≡ Some a → Known d a
  unplug-known true (Some p) a how e f h = (let same : Unplug p ≡ a = cc in subst (Known d) same (e, how, f refl))
  unplug-known true None a how e f h = absurd (cc)
  unplug-known false p a how e f h = absurd (cc)

  pressed : IsSome (button_of d) → IsSome (get (codes "button") d)
  pressed = button-there (says (codes "button") (codes "A") d) (says (codes "button") (codes "B") d) (get (codes "button") d) (says-there (codes "A") (get (codes "button") d)) (says-there (codes "B") (get (codes "button") d))

  pub known : (a : Act) → act_of d ≡ Some a → Known d a
  known a h =
      by_how (says (codes "do") (codes "down") d) (says (codes "do") (codes "up") d) (says (codes "do") (codes "raise") d) (says (codes "do") (codes "unplug") d) refl refl refl refl h
    where
      how : (text : List ℕ) → says (codes "do") text d ≡ true → IsSome (get (codes "do") d)
      how text is = says-there text (get (codes "do") d) is

      by_how : (b1 b2 b3 b4 : Bool) → says (codes "do") (codes "down") d ≡ b1 → says (codes "do") (codes "up") d ≡ b2 → says (codes "do") (codes "raise") d ≡ b3 → says (codes "do") (codes "unplug") d ≡ b4
          → (if b1 then only_if (has_members 3 d) (option_map Down (button_of d)) else if b2 then only_if (has_members 3 d) (option_map Up (button_of d))
          else if b3 then only_if (has_members 4 d) (raised_with (whole greatest_number (codes "source") d) (whole greatest_number (codes "value") d)) else if b4 then only_if (has_members 3 d) (option_map Unplug (whole 3 (codes "port") d)) else None) ≡ Some a
          → Known d a
      by_how true b2 b3 b4 e1 e2 e3 e4 k = press-known Down (has_members 3 d) (button_of d) a (λ n m b. (m, how (codes "down") e1, b)) refl pressed k
      by_how false true b3 b4 e1 e2 e3 e4 k = press-known Up (has_members 3 d) (button_of d) a (λ n m b. (m, how (codes "up") e2, b)) refl pressed k
      by_how false false true b4 e1 e2 e3 e4 k =
          raise-known (has_members 4 d) (whole greatest_number (codes "source") d) (whole greatest_number (codes "value") d) a (how (codes "raise") e3) refl
          (whole-there greatest_number (get (codes "source") d)) (whole-there greatest_number (get (codes "value") d)) k
      by_how false false false true e1 e2 e3 e4 k = unplug-known (has_members 3 d) (whole 3 (codes "port") d) a (how (codes "unplug") e4) refl (whole-there 3 (get (codes "port") d)) k
      by_how false false false false e1 e2 e3 e4 k = absurd (cc)

  names-known : (a : Act) → Known d a → IsSome (get (codes "at") d) → HasExactly (names_of a) d
  names-known (Down b) h t = exactly (names_of (Down b)) d (distinct (names_of (Down b)) refl) h.0 (three d (codes "at") (codes "do") (codes "button") t h.1 h.2)
  names-known (Up b) h t = exactly (names_of (Up b)) d (distinct (names_of (Up b)) refl) h.0 (three d (codes "at") (codes "do") (codes "button") t h.1 h.2)
  names-known (Raise e) h t = exactly (names_of (Raise e)) d (distinct (names_of (Raise e)) refl) h.0 (four d (codes "at") (codes "do") (codes "source") (codes "value") t h.1 h.2 h.3)
  names-known (Unplug p) h t = exactly (names_of (Unplug p)) d (distinct (names_of (Unplug p)) refl) h.0 (three d (codes "at") (codes "do") (codes "port") t h.1 h.2)

  pub entry-members : (e : Entry) → entry_of d ≡ Some e → HasExactly (names_of e.act) d
  entry-members e h = by_parts (whole end_limit (codes "at") d) (act_of d) refl refl h
    where
      by_parts : (t : Option ℕ) (a : Option Act) → whole end_limit (codes "at") d ≡ t → act_of d ≡ a → entry_with t a ≡ Some e → HasExactly (names_of e.act) d
      by_parts (Some t) (Some a) f g k =
          let whole_entry : (let x : Entry = record { at = t; act = a } in x ≡ e) = cc in
          let same : a ≡ e.act = ap (λ (x : Entry). x.act) whole_entry in
          let here : IsSome (whole end_limit (codes "at") d) = subst (λ (o : Option ℕ). IsSome o) (sym f) refl in
          subst (λ (x : Act). HasExactly (names_of x) d) same (names-known a (known a g) (whole-there end_limit (get (codes "at") d) here))
      by_parts (Some t) None f g k = absurd (cc)
      by_parts None a f g k = absurd (cc)

  pub script-members : (s : Script) → script_of d ≡ Some s → HasExactly (codes "end" ∷ codes "events" ∷ []) d
  script-members s h = by_parts (has_members 2 d) (whole end_limit (codes "end") d) (list_of entry_of (codes "events") d) refl refl refl h
    where
      by_parts : (m : Bool) (t : Option ℕ) (es : Option (List Entry)) → has_members 2 d ≡ m → whole end_limit (codes "end") d ≡ t → list_of entry_of (codes "events") d ≡ es
          → only_if m (script_with t es) ≡ Some s → HasExactly (codes "end" ∷ codes "events" ∷ []) d
      by_parts true (Some t) (Some es) e f g k =
          let end_here : IsSome (whole end_limit (codes "end") d) = subst (λ (o : Option ℕ). IsSome o) (sym f) refl in
          let events_here : IsSome (list_of entry_of (codes "events") d) = subst (λ (o : Option (List Entry)). IsSome o) (sym g) refl in
          exactly (codes "end" ∷ codes "events" ∷ []) d (distinct (codes "end" ∷ codes "events" ∷ []) refl) e
          (two d (codes "end") (codes "events") (whole-there end_limit (get (codes "end") d) end_here) (list-there entry_of (get (codes "events") d) events_here))
      by_parts true (Some t) None e f g k = absurd (cc)
      by_parts true None es e f g k = absurd (cc)
      by_parts false t es e f g k = absurd (cc)
