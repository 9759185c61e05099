-- Moves behind moves.
use Rattle.std.proofs.Common.{◌≡◌, ℕ, zero, suc, ◌+◌, List, [], ◌∷◌, ◌++◌, length, refl, sym, ap, ◌∙◌, arith, append_assoc}
use Rattle.std.proofs.lemmas.List.{append-nil}
use Rattle.board_world.specs.Observations.{Observation}
use Rattle.board_world.specs.Transcript.{line, lines}
use Rattle.board_world.specs.Board.{Board}
use Rattle.board_ports.specs.History.{Unplug as Unplugs}
use Rattle.board_outside.specs.Moves.{Move, Seen, Unplugged, seen_of, unplugged_of, HasMet, Meets}
use Rattle.board_outside.specs.Ports.{port_moves, words_of}

pub seen_of-append : (ms ns : List Move) → seen_of (ms ++ ns) ≡ seen_of ms ++ seen_of ns
seen_of-append [] ns = refl
seen_of-append (Seen o ∷ ms) ns = ap (λ l. o ∷ l) (seen_of-append ms ns)
seen_of-append (Unplugged port ∷ ms) ns = seen_of-append ms ns

pub unplugged_of-append : (k : ℕ) (ms ns : List Move) → unplugged_of k (ms ++ ns) ≡ unplugged_of k ms ++ unplugged_of (k + length (seen_of ms)) ns
unplugged_of-append k [] ns = (let e : k ≡ k + zero = omega arith in ap (λ j. unplugged_of j ns) e)
unplugged_of-append k (Seen o ∷ ms) ns = unplugged_of-append (suc k) ms ns ∙ (let e : suc k + length (seen_of ms) ≡ k + suc (length (seen_of ms)) = omega arith in ap (λ j. unplugged_of (suc k) ms ++ unplugged_of j ns) e)
unplugged_of-append k (Unplugged port ∷ ms) ns = ap (λ l. (port, k) ∷ l) (unplugged_of-append k ms ns)

pub port_moves-append : (ms ns : List Move) → port_moves (ms ++ ns) ≡ port_moves ms ++ port_moves ns
port_moves-append [] ns = refl
port_moves-append (Seen o ∷ ms) ns = ap (λ l. words_of o ++ l) (port_moves-append ms ns) ∙ sym (append_assoc (words_of o) (port_moves ms) (port_moves ns))
port_moves-append (Unplugged port ∷ ms) ns = ap (λ l. Unplugs port ∷ l) (port_moves-append ms ns)

pub lines-append : (os ps : List Observation) → lines (os ++ ps) ≡ lines os ++ lines ps
lines-append [] ps = refl
lines-append (o ∷ os) ps = ap (λ l. line o ++ l) (lines-append os ps) ∙ sym (append_assoc (line o) (lines os) (lines ps))

-- moves behind those that were met
pub met_then : (met moves : List Move) (b c : Board) → HasMet met b → Meets moves b c → HasMet (met ++ moves) c
met_then met moves b c h m = record {
  seen = m.seen ∙ ap (λ l. l ++ seen_of moves) h.seen ∙ sym (seen_of-append met moves);
  unplugged =
      let k : length b.seen ≡ zero + length (seen_of met) = (let e = ap length h.seen in omega (arith, e)) in
      m.unplugged ∙ ap (λ l. l ++ unplugged_of (length b.seen) moves) h.unplugged ∙ ap (λ j. unplugged_of zero met ++ unplugged_of j moves) k ∙ sym (unplugged_of-append zero met moves);
}

pub meets_nothing : (b c : Board) → c.seen ≡ b.seen → c.unplugged ≡ b.unplugged → Meets [] b c
meets_nothing b c s u = record { seen = s ∙ sym (append-nil b.seen); unplugged = u ∙ sym (append-nil b.unplugged) }
