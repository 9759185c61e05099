-- A push is the service that a fiber asks for.
use Rattle.std.proofs.Common.{◌≡◌, ◌≢◌, ℕ, ◌+◌, ◌<◌, ◌≤◌, ◌==◌, nat_le, Bool, true, false, refl, arith, inl, inr}
use Rattle.std.proofs.lemmas.Bool.Decides.{nat_tests}
use Rattle.board_world.specs.Limits.{arena_limit}
use Rattle.bank_model.specs.Fibers.{Fiber, Shared}
use Rattle.bank_model.specs.Arrays.{is_array, is_full, room_of, grown_room}
use Rattle.bank_model.specs.AllServices.{word_argument, pushes}
use Rattle.arena_heap.specs.Pushing.{pushing}
use Rattle.arena_heap.specs.AsService.{IsAsked}

pub push_asked : (at : ℕ) (f : Fiber) (s : Shared) → word_argument f 0 ≢ 0 → IsAsked at f s (pushing s.arena s.used (word_argument f 0) (word_argument f 1)) (pushes at f s)
push_asked at f s some = by_tests (word_argument f 0 == 0) (is_array s.arena s.used (word_argument f 0)) (is_full s.arena (word_argument f 0)) (nat_le (s.used + grown_room (room_of s.arena (word_argument f 0))) arena_limit) refl refl refl refl
  where
    by_tests : (n a b c : Bool) → (word_argument f 0 == 0) ≡ n → is_array s.arena s.used (word_argument f 0) ≡ a → is_full s.arena (word_argument f 0) ≡ b
        → nat_le (s.used + grown_room (room_of s.arena (word_argument f 0))) arena_limit ≡ c
        → IsAsked at f s (pushing s.arena s.used (word_argument f 0) (word_argument f 1)) (pushes at f s)
    by_tests true a b c e1 e2 e3 e4 = absurd (some (grind (arith, nat_tests)))
    by_tests false false b c e1 e2 e3 e4 = rw (e1, e2) refl
    by_tests false true false c e1 e2 e3 e4 = rw (e1, e2, e3) (inl (refl, refl))
    by_tests false true true true e1 e2 e3 e4 =
        let fits : s.used + grown_room (room_of s.arena (word_argument f 0)) ≤ arena_limit = grind (arith, nat_tests) in
        rw (e1, e2, e3, e4) (inr (record { more = grown_room (room_of s.arena (word_argument f 0)); next = _; takes = refl; fits = fits; count = refl; goes = refl }))
    by_tests false true true false e1 e2 e3 e4 =
        let over : arena_limit < s.used + grown_room (room_of s.arena (word_argument f 0)) = grind (arith, nat_tests) in
        rw (e1, e2, e3, e4) (record { more = grown_room (room_of s.arena (word_argument f 0)); next = _; takes = refl; passes = over })
