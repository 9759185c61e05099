use Rattle.std.proofs.Common.{◌≡◌, ℕ, List, take, Option, Some, None, refl, subst}
use Rattle.std.specs.Option.{option_map}
use Rattle.around_place.specs.Brackets.{innermost_bracket}
use Rattle.around_place.specs.Rows.{first_byte}
use Rattle.around_place.specs.Telling.{IsBracketPlace}
use Rattle.around_place.specs.Words.{AreItsWords}
use Rattle.around_place.proofs.Explained.{bracket-known, seen-around}
use Rattle.around_place.proofs.explaining.explain_by.Goals as goal

pub returns-in-Some : goal.returns-in-Some
returns-in-Some c =
    let before = take c.place_at-at.result c.args.text.now in
    let known : (words : List (List ℕ)) → AreItsWords before words → c.bracket_of-byte.result ≡ option_map first_byte (innermost_bracket before words) =
    λ words read. bracket-known c.innermost-bracket.result (innermost_bracket before words) c.bracket_of-byte.result c.bracket_of-byte.ensures (c.innermost-bracket.ensures words read) in (
      c.place_at-at.result,
      (
        c.place_at-at.ensures.found,
        λ seen stands. (
          Some c.in-Some.row.now,
          (
            c.in-Some.ensures seen
                (seen-around c.around-seen.result c.args.text.now c.place_at-at.result c.args.column c.bracket_of-byte.result seen c.around-seen.ensures.line c.around-seen.ensures.before
                c.around-seen.ensures.behind c.around-seen.ensures.bracket known stands),
            record {
              sentence = c.said.ensures.sentence;
              example = c.said.ensures.example;
              place = c.opened.result;
              stands = subst (λ (x : Option (List ℕ)). IsBracketPlace c.args.text.now c.place_at-at.result x c.opened.result) (c.innermost-bracket.ensures seen.before stands.before) c.opened.ensures;
              opened = c.said.ensures.opened;
            },
          ),
        ),
      ),
    )

pub returns-in-None : goal.returns-in-None
returns-in-None c =
    let before = take c.place_at-at.result c.args.text.now in
    let known : (words : List (List ℕ)) → AreItsWords before words → c.bracket_of-byte.result ≡ option_map first_byte (innermost_bracket before words) =
    λ words read. bracket-known c.innermost-bracket.result (innermost_bracket before words) c.bracket_of-byte.result c.bracket_of-byte.ensures (c.innermost-bracket.ensures words read) in (
      c.place_at-at.result,
      (
        c.place_at-at.ensures.found,
        λ seen stands. (
          None,
          (
            c.in-None.ensures seen
                (seen-around c.around-seen.result c.args.text.now c.place_at-at.result c.args.column c.bracket_of-byte.result seen c.around-seen.ensures.line c.around-seen.ensures.before
                c.around-seen.ensures.behind c.around-seen.ensures.bracket known stands),
            refl,
          ),
        ),
      ),
    )
