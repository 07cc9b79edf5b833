-- A volume with the directories a and b and the file f in a, updates of each kind that changes entries, and a base whose objects aren't all reached.
use Rattle.std.specs.Prelude.{◌+◌, ℕ, List, [], ◌∷◌, Some, None}
use Rattle.ec_volume.specs.Volume.{Images, images, formatted, after}
use Rattle.ec_volume.specs.declared.image.Image.TheVariants as image
use Rattle.ec_volume.specs.declared.image.Kind.TheVariants as kind
use Rattle.ec_volume.specs.declared.update.Update.{Update}
use Rattle.ec_volume.specs.declared.update.Update.TheVariants.{Make, Drop, Move, Shift}
use Rattle.ec_history.specs.History.{Base}

-- names of one letter
abbrev pub a : List ℕ
a = 97 ∷ []

abbrev pub b : List ℕ
b = 98 ∷ []

abbrev pub f : List ℕ
f = 102 ∷ []

abbrev pub g : List ℕ
g = 103 ∷ []

abbrev pub building : List Update
building = Make 1 a 2 kind.Dir ∷ Make 1 b 3 kind.Dir ∷ Make 2 f 4 kind.File ∷ []

abbrev pub built : Images
built = after formatted building

-- the directory b moves into a
abbrev pub nesting : Update
nesting = Shift 1 b 2 b 3 kind.Dir None ((1, a) ∷ [])

-- b gets a file f; the file of a is named g, and then moves to b in the place of that f; b moves into a; f goes
abbrev pub changes : List Update
changes = Make 3 f 5 kind.File ∷ Move 2 f g 4 kind.File None ∷ Shift 2 g 3 f 4 kind.File (Some 5) [] ∷ nesting ∷ Drop 3 f 4 kind.File ∷ []

-- The root, and beside it a ring: two directories, each the other's entry. No path leads to them.
abbrev pub ring : Base
ring = record {
  volume = images ((1, image.Dir 493 0 0 []) ∷ (2, image.Dir 493 0 0 ((a, 3) ∷ [])) ∷ (3, image.Dir 493 0 0 ((a, 2) ∷ [])) ∷ []);
  fresh = λ place. 3 + place;
}
