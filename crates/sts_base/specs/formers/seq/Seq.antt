-- How a `Seq` may stand inside the type of its own items: it holds them as a list does.
use mathlib.Core.Path.{◌≡◌, refl, sym}
use mathlib.Core.List.{List, []}
use mathlib.Core.Former.{Former, this, list, via, children}
use base.Stored.{code_map}
use denote.RattleType.{RattleType}
use denote.HoleLaws.{Alike}
use denote.HolePlaces.{Recodes, struct_places, laid}
use denote.Hole.Carrier.{listed, list-listed}
use denote.Hole.Fix.{over}
use denote.Param.Weighed.{Weighed, w_list}
use denote.Model.Placed.{view_places}
use Rattle.std.specs.formers.vec.Vec as vec
use Rattle.std.specs.declared.alloc.Global.{Global}
use Rattle.std.specs.contracts.alloc.Global as heap
use Rattle.std.specs.contracts.impls.GlobalAllocator.TheImpl.{ghosts}
use Rattle.sts_base.specs.declared.seq.Seq.TheInside.{Inside}
use Rattle.sts_base.specs.declared.seq.Seq.TheView.{view, invariant}
use Rattle.sts_base.specs.contracts.seq.Seq as outer
use Rattle.sts_base.specs.contracts.seq.Seq.TheInside as inner

-- its items, as a list
abbrev pub the_former : Former {0} → Former {0}
the_former item = list item

abbrev pub the_weighed : {item : Former {0}} → Weighed item → Weighed (the_former item)
the_weighed weighed = w_list weighed

-- it may be empty
pub the_empty : List ⊥
the_empty = []

abbrev pub the_items : (X : Type 0) → List X → List X
the_items X items = items

pub the_items_listed : (X : Type 0) (items : List X) → listed _ (children (the_former this) X items) ≡ the_items X items
the_items_listed X items = list-listed X items

-- the one field, a `Vec` of the items
abbrev vec_field : Former {0}
vec_field =
    via (vec.the_former this Global) Inside (λ X inside. inside.items) (λ X held. record { items = held })
    (λ X inside. refl) (λ X held. refl)

module _ (Old New : RattleType) (change : Old.Denot → New.Denot) where
  pub the_places : Alike Old New change
      → Alike (outer.the_row Old) (outer.the_row New) ((the_former this).map Old.Denot New.Denot change)
  the_places alike =
      view_places vec_field (list this) view (λ X Y k u. refl) (λ X u. refl) Old.Denot New.Denot change
      (outer.the_row Old).coded (outer.the_row New).coded (invariant Old.Denot) (invariant New.Denot)
      (λ u p q. refl) (λ u p q. refl) (λ u e. tt) (λ u e. tt)
      (over (inner.the_row Old)) (over (inner.the_row New))
      (struct_places (inner.the_type Old) (inner.the_type New) (vec.mapped change, tt) _ (λ d. refl) refl
      (laid _ _ _ (vec.the_places heap.the_row ghosts Old New change alike), tt))

  pub the_codes_placed : Recodes Old New change
      → Recodes (outer.the_row Old) (outer.the_row New) ((the_former this).map Old.Denot New.Denot change)
  the_codes_placed recodes items = sym (code_map Old.coded.code New.coded.code change (λ x. sym (recodes x)) items)
