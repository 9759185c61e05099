-- Words that were sent, one behind the other.
use Rattle.std.proofs.Common.{◌≡◌, ℕ, List, [], ◌∷◌, ◌++◌, ◌∙◌, ◌≤◌, ◌+◌, ◌-◌, ap, append_assoc, sym, length, refl, subst, Option}
use Rattle.std.proofs.lemmas.List.{append-nil}
use Rattle.thumb_code.specs.Map.{flash_byte}
use Rattle.bank_model.specs.Texts.{flash_bytes}
use Rattle.board_ports.specs.Account.{Account}
use Rattle.board_ports.specs.History.{PortMove, Word, words_sent, FollowsMoves}
use Rattle.board_ports.specs.Plugged.{Plugged}
use Rattle.board_outside.specs.Ports.{serial_port}
use Rattle.board_outside.proofs.Texts.{bytes-one-more, bytes-parts}

sent-append : (now : ℕ) (xs ys : List ℕ) → words_sent serial_port now (xs ++ ys) ≡ words_sent serial_port now xs ++ words_sent serial_port now ys
sent-append now [] ys = refl
sent-append now (x ∷ xs) ys = ap (λ l. Word serial_port now x ∷ l) (sent-append now xs ys)

-- what the image has of some bytes, and what it hasn't
pub sent-parts : (moves : List PortMove) (now : ℕ) (flash found : List ℕ) (count at : ℕ) → length found ≤ count → found ≡ flash_bytes flash (length found) at
    → (moves ++ words_sent serial_port now found) ++ words_sent serial_port now (flash_bytes flash (count - length found) (at + length found)) ≡ moves ++ words_sent serial_port now (flash_bytes flash count at)
sent-parts moves now flash found count at h is =
    append_assoc moves (words_sent serial_port now found) _
    ∙ ap (λ x. moves ++ x) (sym (sent-append now found _) ∙ ap (words_sent serial_port now) (bytes-parts flash found count at h is))

-- one byte of flash more
pub sent-flash-more : (moves : List PortMove) (now : ℕ) (flash : List ℕ) (at i : ℕ)
    → (moves ++ words_sent serial_port now (flash_bytes flash i at)) ++ Word serial_port now (flash_byte flash (at + i)) ∷ [] ≡ moves ++ words_sent serial_port now (flash_bytes flash (i + 1) at)
sent-flash-more moves now flash at i =
    append_assoc moves (words_sent serial_port now (flash_bytes flash i at)) _
    ∙ ap (λ x. moves ++ x) (sym (sent-append now (flash_bytes flash i at) _) ∙ ap (words_sent serial_port now) (sym (bytes-one-more flash at i)))

module _ {B : Type 0} (account : B → Account) where
  pub none-sent : (moves : List PortMove) (start : List (Option B)) (now : Plugged B) → FollowsMoves account moves start now → FollowsMoves account (moves ++ []) start now
  none-sent moves start now f = subst (λ ms. FollowsMoves account ms start now) (sym (append-nil moves)) f
