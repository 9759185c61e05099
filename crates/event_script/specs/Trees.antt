-- What is read of a JSON tree: members that are numbers, texts and lists, and how many members there are.
use Rattle.std.specs.Prelude.{ℕ, suc, Bool, true, false, if◌then◌else◌, nat_le, ◌==◌, Option, Some, None, option_and_then, List, [], ◌∷◌}
use Rattle.std.specs.Str.{bytes_eq}
use Rattle.serde_json.specs.Data.{Data, Items, no_items, item, Members, no_members, member}
use Rattle.serde_json.specs.Find.{get, as_number, as_u64, as_str, as_array, as_object}

-- the number of a member that is a whole number from 0 up to the greatest; other members have none
abbrev pub at_most : ℕ → Option ℕ → Option ℕ
at_most most None = None
at_most most (Some n) = if nat_le n most then Some n else None

abbrev pub whole : ℕ → List ℕ → Data → Option ℕ
whole most name d = at_most most (option_and_then as_u64 (option_and_then as_number (get name d)))

-- the text of a member; other members have none
abbrev pub text_of : List ℕ → Data → Option (List ℕ)
text_of name d = option_and_then as_str (get name d)

-- whether a member is this text
abbrev pub is_text : List ℕ → Option (List ℕ) → Bool
is_text text None = false
is_text text (Some s) = bytes_eq s text

abbrev pub says : List ℕ → List ℕ → Data → Bool
says name text d = is_text text (text_of name d)

-- an object of so many members; it has each name once, so with as many named members there it has exactly those
abbrev pub count_of : Members → ℕ
count_of no_members = 0
count_of (member k d ms) = suc (count_of ms)

abbrev pub is_count : ℕ → Option Members → Bool
is_count n None = false
is_count n (Some ms) = count_of ms == n

abbrev pub has_members : ℕ → Data → Bool
has_members n d = is_count n (as_object d)

-- what there is only where a test passes
abbrev pub only_if : {X : Type 0} → Bool → Option X → Option X
only_if true o = o
only_if false o = None

-- all items, where each is read as something
abbrev pub all_of : {X : Type 0} → Option X → Option (List X) → Option (List X)
all_of (Some x) (Some xs) = Some (x ∷ xs)
all_of _ _ = None

abbrev pub items_of : {X : Type 0} → (Data → Option X) → Items → Option (List X)
items_of read no_items = Some []
items_of read (item d ds) = all_of (read d) (items_of read ds)

-- the items of a member that is a list
abbrev pub list_of : {X : Type 0} → (Data → Option X) → List ℕ → Data → Option (List X)
list_of read name d = option_and_then (items_of read) (option_and_then as_array (get name d))
