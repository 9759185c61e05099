use Rattle.std.proofs.Common.{◌≡◌, ℕ, List, [], ◌∷◌, ◌+◌, ◌++◌, ap, ◌∙◌, append_assoc, slice_index}
use Rattle.std.proofs.lemmas.Result.{on_ok_weaker}
use Rattle.thumb_layout.specs.Cells.{word_bytes}
use Rattle.image_link.specs.Image.{base}
use Rattle.image_link.proofs.writing.put_head.Goals as goal

-- four lists put one behind another
four : (b w v u s x y z : List ℕ) → x ≡ b ++ w → y ≡ x ++ v → z ≡ y ++ u → z ++ s ≡ b ++ (w ++ (v ++ (u ++ s)))
four b w v u s x y z e f g = ap (λ q. q ++ s) (g ∙ ap (λ q. q ++ u) (f ∙ ap (λ q. q ++ v) e)) ∙ simp append_assoc

pub returns : goal.returns
returns c =
    let old = c.args.image.now.items in
    let main = slice_index c.args.addresses.now.functions c.args.main + 1 in
    let x = c.put_word.new.image.items in
    let second : c.put_word-2.new.image.items ≡ x ++ word_bytes main = c.in_ok-put_word-2.ensures ∙ ap (λ n. x ++ word_bytes n) c.word_for.ensures in
    on_ok_weaker c.put.result
    (λ h. h ∙ four old (word_bytes base) (word_bytes main) (word_bytes 13) (0 ∷ 223 ∷ []) x c.put_word-2.new.image.items c.put_word-3.new.image.items c.in_ok-put_word.ensures second c.in_ok-put_word-3.ensures)
    c.put.ensures
