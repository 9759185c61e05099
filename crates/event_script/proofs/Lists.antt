-- What is known of each item is known of all items of a list that is read.
use Rattle.std.proofs.Common.{ℕ, Option, Some, None, option_and_then, IfSome, List, arith, All}
use Rattle.std.proofs.lemmas.List.Elements.{All-cons}
use Rattle.serde_json.specs.Data.{Data, Items, no_items, item}
use Rattle.serde_json.specs.Find.{get, as_array}
use Rattle.event_script.specs.Trees.{all_of, items_of, list_of}

module _ {X : Type 0} (P : X → Type 0) (read : Data → Option X) (each : (d : Data) → IfSome (read d) P) where
  all-some : (x : Option X) (xs : Option (List X)) → IfSome x P → IfSome xs (All P) → IfSome (all_of x xs) (All P)
  all-some (Some x) (Some xs) p q = All-cons P x xs p q
  all-some (Some x) None p q = tt
  all-some None xs p q = tt

  items-some : (ds : Items) → IfSome (items_of read ds) (All P)
  items-some no_items = λ k d h. absurd (omega arith)
  items-some (item d ds) = all-some (read d) (items_of read ds) (each d) (items-some ds)

  chained : (o : Option Items) → IfSome (option_and_then (items_of read) o) (All P)
  chained None = tt
  chained (Some ds) = items-some ds

  pub list-some : (name : List ℕ) (d : Data) → IfSome (list_of read name d) (All P)
  list-some name d = chained (option_and_then as_array (get name d))
