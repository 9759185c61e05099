mod Glyphs
