-- The font: 41 glyphs of five rows of five lights, `#` lit and `.` dark.
use Rattle.std.specs.Prelude.{ℕ, ◌+◌, ◌-◌, ◌*◌, Bool, ◌&&◌, if◌then◌else◌, nat_le, ◌==◌, List, [], ◌∷◌, codes, slice_index}
use Rattle.std.specs.List.{list_all}
use Rattle.std.specs.Int.{bit_at}

-- each glyph's byte in ASCII, and its rows from the top, joined by `/`
abbrev pub font : List (ℕ × List ℕ)
font =
    (48, codes ".###./#..##/#.#.#/##..#/.###.") ∷
    (49, codes "..#../.##../..#../..#../.###.") ∷
    (50, codes "####./....#/.###./#..../#####") ∷
    (51, codes "####./....#/.###./....#/####.") ∷
    (52, codes "#..#./#..#./#####/...#./...#.") ∷
    (53, codes "#####/#..../####./....#/####.") ∷
    (54, codes ".###./#..../####./#...#/.###.") ∷
    (55, codes "#####/....#/...#./..#../..#..") ∷
    (56, codes ".###./#...#/.###./#...#/.###.") ∷
    (57, codes ".###./#...#/.####/....#/.###.") ∷
    (65, codes ".###./#...#/#####/#...#/#...#") ∷
    (66, codes "####./#...#/####./#...#/####.") ∷
    (67, codes ".####/#..../#..../#..../.####") ∷
    (68, codes "####./#...#/#...#/#...#/####.") ∷
    (69, codes "#####/#..../####./#..../#####") ∷
    (70, codes "#####/#..../####./#..../#....") ∷
    (71, codes ".####/#..../#..##/#...#/.####") ∷
    (72, codes "#...#/#...#/#####/#...#/#...#") ∷
    (73, codes ".###./..#../..#../..#../.###.") ∷
    (74, codes "..###/...#./...#./#..#./.##..") ∷
    (75, codes "#...#/#..#./###../#..#./#...#") ∷
    (76, codes "#..../#..../#..../#..../#####") ∷
    (77, codes "#...#/##.##/#.#.#/#...#/#...#") ∷
    (78, codes "#...#/##..#/#.#.#/#..##/#...#") ∷
    (79, codes ".###./#...#/#...#/#...#/.###.") ∷
    (80, codes "####./#...#/####./#..../#....") ∷
    (81, codes ".###./#...#/#.#.#/#..#./.##.#") ∷
    (82, codes "####./#...#/####./#..#./#...#") ∷
    (83, codes ".####/#..../.###./....#/####.") ∷
    (84, codes "#####/..#../..#../..#../..#..") ∷
    (85, codes "#...#/#...#/#...#/#...#/.###.") ∷
    (86, codes "#...#/#...#/#...#/.#.#./..#..") ∷
    (87, codes "#...#/#...#/#.#.#/##.##/#...#") ∷
    (88, codes "#...#/.#.#./..#../.#.#./#...#") ∷
    (89, codes "#...#/.#.#./..#../..#../..#..") ∷
    (90, codes "#####/...#./..#../.#.../#####") ∷
    (32, codes "...../...../...../...../.....") ∷
    (45, codes "...../...../.###./...../.....") ∷
    (33, codes "..#../..#../..#../...../..#..") ∷
    (63, codes ".###./#...#/...#./...../..#..") ∷
    (46, codes "...../...../...../...../..#..") ∷
    []

-- a small letter is shown as its capital
abbrev pub capital : ℕ → ℕ
capital byte = if nat_le 97 byte && nat_le byte 122 then byte - 32 else byte

-- the rows for a byte in a list of glyphs; a byte that isn't listed is shown as `?`
abbrev pub rows_in : List (ℕ × List ℕ) → ℕ → List ℕ
rows_in [] byte = codes ".###./#...#/...#./...../..#.."
rows_in (g ∷ gs) byte = if g.0 == byte then g.1 else rows_in gs byte

abbrev pub rows_of : ℕ → List ℕ
rows_of byte = rows_in font (capital byte)

-- the frame that shows rows: the first light is bit 0
abbrev pub frame_of : List ℕ → ℕ
frame_of [] = 0
frame_of (c ∷ cs) = if c == 47 then frame_of cs else (if c == 35 then 1 else 0) + 2 * frame_of cs

abbrev pub glyph_of : ℕ → ℕ
glyph_of byte = frame_of (rows_of byte)

-- whether the light at column x and row y, bit 5 * y + x, is lit exactly where row y has `#` at x
abbrev pub is_lit_as : List ℕ → ℕ → ℕ → Bool
is_lit_as rows x y = bit_at (frame_of rows) (5 * y + x) == (if slice_index rows (6 * y + x) == 35 then 1 else 0)

abbrev pub each_of_five : (ℕ → Bool) → Bool
each_of_five test = list_all test (0 ∷ 1 ∷ 2 ∷ 3 ∷ 4 ∷ [])
