-- The side that is selected after an append and after a checkpoint.
use Rattle.std.proofs.Common.{◌≡◌, ℕ, List, length, ap, sym, ◌∙◌}
use Rattle.ec_disk.specs.Disk.{View}
use Rattle.ec_disk.specs.Effects.{LeavesOnly}
use Rattle.ec_disk.specs.Runs.{Ran}
use Rattle.ec_journal.specs.Records.{records}
use Rattle.ec_journal.specs.Journal.{place_of, size_of, Adds, LeavesEither, LeavesOld, StopsIn, FromGate}
use Rattle.ec_journal.specs.declared.journal.Journal.{Journal}
use Rattle.ec_journal.specs.declared.layout.selected.Selected.{Selected}
use Rattle.ec_journal.specs.declared.layout.side.Side.{Side}
use Rattle.ec_journal.specs.OfLayout.Places.{journal_at}
use Rattle.ec_journal.specs.OfLayout.Layout.{Layout, Lies, IsLaid, Follows}
use Rattle.ec_journal.specs.OfLayout.Appends.{with_body, LeavesBody, StopsWith, append_leaves, append_keeps, append_stops, append_done, append_journal}
use Rattle.ec_journal.specs.OfLayout.Selected.{IsOn, IsSelected}

pub body_leaves : (old new : View) (l : Layout) (s : Selected) (body : List ℕ) → IsOn old s l → Ran (FromGate s.journal) old new → LeavesEither old new s.journal body → LeavesOnly old new (LeavesBody l body)
body_leaves old new l s body on ran leaves = append_leaves old new l s.journal s.journal body on.journal on.laid ran leaves

pub body_keeps : (old new : View) (l : Layout) (s : Selected) (body : List ℕ) → IsOn old s l → Ran (FromGate s.journal) old new → LeavesOld old new s.journal → new.may_leave new.synced → Lies new.synced l
body_keeps old new l s body on ran keeps given = append_keeps old new l s.journal s.journal body on.journal on.laid ran keeps given

pub body_stops : (old new : View) (l : Layout) (s : Selected) (body : List ℕ) → IsOn old s l → Ran (FromGate s.journal) old new → (turn : ℕ) → StopsIn turn old new s.journal body → new.may_leave new.gives → StopsWith turn new l body
body_stops old new l s body on ran turn stops given = append_stops old new l s.journal s.journal body on.journal on.laid ran turn stops given

pub body_added : (old new : View) (l : Layout) (s : Selected) (later : Journal) (body : List ℕ) → IsOn old s l → Ran (FromGate s.journal) old new → Adds old new s.journal later body → place_of later ≡ place_of s.journal
    → size_of later ≡ size_of s.journal → IsOn new (record s { journal = later }) (with_body body l)
body_added old new l s later body on ran adds place size = record {
  side = on.side;
  journal = append_journal old new l s.journal later body on.journal on.laid ran adds place size;
  laid = append_done old new l s.journal later body on.journal on.laid ran adds place size;
}

pub selected_on : (to : Side) (table : List ℕ) (pieces : List (ℕ × List ℕ)) (before after : Layout) (new : View) (s : Selected) → Follows to table pieces before after → IsSelected to 0 s → IsLaid new after → IsOn new s after
selected_on to table pieces before after new s follows is laid = record {
  side = is.side ∙ sym follows.picked;
  journal = record {
    place = is.place ∙ ap journal_at (sym follows.picked);
    size = is.size;
    ends = is.ends ∙ ap (λ (bodies : List (List ℕ)). length (records bodies)) (sym follows.empty);
  };
  laid = laid;
}
