-- Files of other names stay when one is added.
use Rattle.std.proofs.Common.{◌≡◌, ◌≢◌, ℕ, List, Bool, true, false, cond, ap, sym, refl, ◌∙◌}
use Rattle.std.proofs.Common.{nat_cmp}
use Rattle.std.specs.Prelude.{Option}
use Rattle.std.specs.Option.{option_map}
use Rattle.std.specs.String.{string_cmp, string_bytes}
use Rattle.std.specs.Cmp.Lexicographic.{slice_cmp}
use Rattle.std.specs.Str.{bytes_eq}
use Rattle.std.specs.Map.{update}
use Rattle.std.specs.BTreeMap as tree
use Rattle.std.specs.declared.string.String.{String}
use Rattle.std.specs.declared.vec.Vec.{Vec}
use Rattle.std.specs.declared.alloc.Global.{Global}
use Rattle.std.proofs.lemmas.Map.Text.{btree_map_updates_text}
use Rattle.std.proofs.lemmas.Slice.Eq.{bytes_eq-Decides}
use Rattle.tool_folder.specs.Memory.{bytes_named}

cond-false : {X : Type 0} (b : Bool) (x y : X) → (b ≡ true → ⊥) → cond b x y ≡ y
cond-false true x y h = absurd (h refl)
cond-false false x y h = refl

update-apart : {X : Type 0} (f : List ℕ → Option X) (name : List ℕ) (w : Option X) (file : List ℕ) → file ≢ name → update bytes_eq f name w file ≡ f file
update-apart f name w file apart = cond-false (bytes_eq name file) w (f file) (λ e. apart (sym ((bytes_eq-Decides name file).0 e)))

pub content-apart : (old new : tree.BTreeMap (String Global) (Vec ℕ Global)) (name : List ℕ) (w : Option (Vec ℕ Global))
    → tree.UpdatesBy string_cmp (λ k. slice_cmp nat_cmp name (string_bytes k)) old new w
    → (file : List ℕ) → file ≢ name → bytes_named new file ≡ bytes_named old file
content-apart old new name w updates file apart =
    ap (λ found. option_map (λ bytes. bytes.items) found) (btree_map_updates_text name old new w updates file ∙ update-apart (tree.get_by_text old) name w file apart)
