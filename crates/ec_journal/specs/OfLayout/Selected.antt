-- What a disk is laid out for, with the side that is selected in memory.
use Rattle.std.specs.Prelude.{◌≡◌, ℕ}
use Rattle.ec_disk.specs.Disk.{View}
use Rattle.ec_journal.specs.Journal.{place_of, size_of, end_of, free_of}
use Rattle.ec_journal.specs.declared.layout.selected.Selected.{Selected}
use Rattle.ec_journal.specs.declared.layout.side.Side.{Side}
use Rattle.ec_journal.specs.OfLayout.Places.{journal_at, journal_bytes}
use Rattle.ec_journal.specs.OfLayout.Layout.{Layout, IsLaid}
use Rattle.ec_journal.specs.OfLayout.Appends.{IsJournalOf}

abbrev pub side_now : Selected → Side
side_now selected = selected.side

-- the bytes from the closed gate of its journal on
abbrev pub free_now : Selected → ℕ
free_now selected = free_of selected.journal

-- This side, with so many bytes of records in its journal.
pub record IsSelected (at : Side) (bytes : ℕ) (selected : Selected) : Type 0 where
  pub side : selected.side ≡ at
  pub place : place_of selected.journal ≡ journal_at at
  pub size : size_of selected.journal ≡ journal_bytes
  pub ends : end_of selected.journal ≡ bytes

-- A disk has a layout, whatever a crash leaves, and this is its selected side.
pub record IsOn (now : View) (selected : Selected) (l : Layout) : Type 0 where
  pub side : selected.side ≡ l.side
  pub journal : IsJournalOf l selected.journal
  pub laid : IsLaid now l
