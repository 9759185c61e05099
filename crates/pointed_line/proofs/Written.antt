-- Characters that are written one by one.
use Rattle.std.proofs.Common.{◌≡◌, ℕ, List, ◌++◌, length, ◌∙◌, sym, append_assoc, append-nil, IsUtf8, chars, encode_utf8}
use Rattle.std.proofs.StrCases.{chars_of_empty}
use Rattle.std.proofs.lemmas.Str.{chars_past_char}
use Rattle.pointed_line.specs.Columns.{written_from, behind_it}

pub written-step : (write : ℕ → ℕ → List ℕ) (before out text rest end : List ℕ) (behind c : ℕ) → IsUtf8 text → text ≡ encode_utf8 c ++ rest
    → before ++ written_from write behind (chars text) ≡ end → out ≡ before ++ write behind c → out ++ written_from write (behind_it behind c) (chars rest) ≡ end
unfolding written_from
written-step write before out text rest end behind c utf8 parts held more =
    rw (more, append_assoc) (rw (chars_past_char text rest c utf8 parts) at held)

pub written-end : (write : ℕ → ℕ → List ℕ) (before text end : List ℕ) (behind : ℕ) → length text ≡ 0 → before ++ written_from write behind (chars text) ≡ end → before ≡ end
unfolding written_from
written-end write before text end behind none held = sym (append-nil before) ∙ rw (chars_of_empty text none) at held
