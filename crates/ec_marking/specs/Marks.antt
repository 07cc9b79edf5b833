-- What a record that a server commits shows, and how it's known from the state behind it.
use Rattle.std.specs.Prelude.{◌≡◌, ◌++◌, ◌∷◌, List, [], Option, None, Some}
use Rattle.ec_durable.specs.declared.state.Durable.{Durable}
use Rattle.ec_durable.specs.declared.record.Record.{Record}
use Rattle.ec_protocol.specs.World.{Moving, noted, show_noted, with_world}
use Rattle.ec_marking.specs.Signs.{sign_of}
use Rattle.ec_marking.specs.declared.marks.Mark.{Mark}

-- the mark of a record on this state, behind these records
pub record IsMark (mark : Mark) (r : Record) (d : Durable) (before : List Record) : Type 0 where
  pub noted_is : mark.noted ≡ noted d r
  pub sign_is : mark.sign ≡ sign_of r
  pub records_are : mark.records.items ≡ before ++ r ∷ []

abbrev pub RecordIsMarked : Option Mark → Record → Durable → List Record → Type 0
RecordIsMarked None r d before = ⊥
RecordIsMarked (Some mark) r d before = IsMark mark r d before

-- what is known of a mark of the record, if there is one
abbrev pub MarkOf : Option Mark → Option Record → Durable → List Record → Type 0
MarkOf mark None d before = mark ≡ None
MarkOf mark (Some r) d before = RecordIsMarked mark r d before

-- the record is shown, if there is one
abbrev pub gone : Option Mark → Moving → Moving
gone None m = m
gone (Some mark) m = show_noted mark.noted (with_world (λ w. record w { records = mark.records.items }) m)
