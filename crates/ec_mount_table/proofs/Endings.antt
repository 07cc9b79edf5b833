-- How calls over several volumes end.
use Rattle.std.proofs.Common.{◌≡◌, ◌+◌, ◌++◌, ℕ, List, [], Option, Result, Ok, Err, refl, sym, subst, inl, inr}
use Rattle.std.proofs.KnownBytes.{Appends-nil}
use Rattle.std.specs.Prelude.{Vec}
use Rattle.std.specs.declared.alloc.Global.{Global}
use Rattle.std.specs.Io.KnownBytes.{Appends}
use Rattle.ec_history.specs.declared.shown.LimitName.TheVariants as limit
use Rattle.ec_history.specs.declared.shown.Shown.TheVariants as shown
use Rattle.ec_plain.specs.Walk.{Path}
use Rattle.ec_streams.specs.declared.streams.WriteFault.{WriteFault}
use Rattle.ec_streams.specs.declared.streams.WriteFault.TheVariants as write
use Rattle.ec_words.specs.OfText.Lines.{shown_text}
use Rattle.ec_outs.specs.Outs.{Reply}
use Rattle.ec_clerknode.specs.declared.fault.NodeFault.{NodeFault}
use Rattle.ec_clerknode.specs.declared.fault.NodeFault.TheVariants as fault
use Rattle.ec_mount.specs.Mount.{Outside}
use Rattle.ec_mount.specs.Run.{place_in}
use Rattle.ec_mount.specs.Script.{most_bytes}
use Rattle.ec_mount.specs.Shown.{old_boot_text, peer_text}
use Rattle.ec_mount.specs.Writes.{Wrote, WroteAs, Silent, RefusesRows, ended_by}
use Rattle.ec_mount.specs.declared.script.Unread.{Unread}
use Rattle.ec_mount.specs.declared.script.Unread.TheVariants as unread
use Rattle.ec_mount.specs.declared.status.Status.{Status}
use Rattle.ec_mount.specs.declared.status.Status.TheVariants as status
use Rattle.ec_mount_table.specs.Reading.{GivesNone}
use Rattle.ec_mount_table.specs.Rows.{GivesRows}
use Rattle.ec_mount_table.specs.Shown.{came_text, mounts_text}
use Rattle.ec_mount_table.specs.Table.{Ends, MountsAll}
use Rattle.ec_mount_table.specs.Going.{TellsAll, Works, WroteOr, items_of}
use Rattle.ec_mount_table.specs.declared.script.Row.{Row}
use Rattle.ec_mount_table.specs.declared.seen.Seen.{Seen}

module _ (id boot : ℕ) (table : List Path) (w : Outside) where
  whole : (st : Status) (text : List ℕ) → Ends id boot table st w text → Appends w.held w.held_after text → MountsAll id boot table st w
  whole status.Done text e p = (text, e, p)
  whole status.BadLine text e p = (text, e, p)
  whole status.SourceFault text e p = (text, e, p)
  whole status.NetFault text e p = (text, e, p)
  whole status.Limit text e p = (text, e, p)
  whole status.OldBoot text e p = (text, e, p)
  whole status.PeerFault text e p = (text, e, p)
  whole status.Spent text e p = (text, e, p)
  whole status.StartFault text e p = (text, e, p)
  whole status.SinkFault text e p = absurd e
  whole status.NoMemory text e p = absurd e

  ends_by : {A : Type 0} (st : Status) (text : List ℕ) (r : Result A WriteFault) → Ends id boot table st w text → Wrote text w.held w.held_after w.writes w.writes_after r → MountsAll id boot table (ended_by st r) w
  ends_by st text (Ok u) e p = whole st text e p
  ends_by st text (Err write.Failed) e p = (p.1, (st, text, e, p.0))
  ends_by st text (Err write.NoMemory) e p = inl (st, text, e, p.0)

  ends_as : (st : Status) (text : List ℕ) (result : Status) → Ends id boot table st w text → WroteAs text st result w.held w.held_after w.writes w.writes_after → MountsAll id boot table result w
  ends_as st text result e p = subst (λ s. MountsAll id boot table s w) (sym p.1) (ends_by st text p.0 e p.2)

  silent : (st : Status) (result : Status) → Ends id boot table st w [] → Silent st result w.held w.held_after → MountsAll id boot table result w
  silent st result e p = subst (λ s. MountsAll id boot table s w) (sym p.0) (whole st [] e (subst (λ h. Appends w.held h []) (sym p.1) (Appends-nil w.held)))

  wanting : (result : Status) → Silent status.NoMemory result w.held w.held_after → MountsAll id boot table result w
  wanting result p = subst (λ s. MountsAll id boot table s w) (sym p.0) (inr p.1)

  ends_or : (st : Status) (text : List ℕ) (result : Status) → Ends id boot table st w text → WroteOr text st result w.held w.held_after w.writes w.writes_after → MountsAll id boot table result w
  ends_or st text result e (inl p) = ends_as st text result e p
  ends_or st text result e (inr p) = wanting result p

  -- there were no rows
  pub refused : (why : Unread) (result : Status) → w.net_after ≡ w.net → GivesNone w.left w.left_after w.reads w.reads_after why → RefusesRows why result w.held w.held_after w.writes w.writes_after → MountsAll id boot table result w
  refused unread.Bytes result same h p = ends_as status.Limit (shown_text (shown.Limit limit.Bytes (most_bytes + 1))) result (limit.Bytes, most_bytes + 1, (refl, h.0, h.1, h.2), same, refl) p
  refused (unread.Lines n) result same h p = ends_as status.Limit (shown_text (shown.Limit limit.Lines n)) result (limit.Lines, n, h, same, refl) p
  refused (unread.Bad n column) result same h p =
      ends_as status.BadLine (shown_text (shown.Bad n column)) result (record { script = h.0; given = h.1; few_lines = h.2; line = n; column = column; bad = h.3; net = same; is = refl }) p
  refused unread.Source result same h p = silent status.SourceFault result (h, same, refl) p
  refused unread.NoMemory result same h p = wanting result p

  -- the clerks were run
  module _ (rows : List Row) (given : GivesRows w.left w.left_after rows) (mets : List Seen) (replies : List Reply) (told : List (List (List ℕ))) where
    told_end : (last : Result (List Reply) NodeFault) (result : Status) → Works id boot table rows w.net w.net_after mets replies told last → TellsAll table rows mets replies told last result w.held w.held_after w.writes w.writes_after → MountsAll id boot table result w
    told_end (Ok lasts) result k p = ends_or status.Done (mounts_text table rows mets told lasts) result (rows, given, (mets, told, lasts, k, refl)) p
    told_end (Err fault.Net) result k p = ends_or status.NetFault (came_text table rows mets replies told ++ []) result (rows, given, (mets, replies, told, k, refl)) p
    told_end (Err (fault.Peer why)) result k p = ends_or status.PeerFault (came_text table rows mets replies told ++ peer_text (place_in why)) result (fault.Peer why, place_in why, refl, (rows, given, (mets, replies, told, k, refl))) p
    told_end (Err (fault.Long n)) result k p = ends_or status.PeerFault (came_text table rows mets replies told ++ peer_text 0) result (fault.Long n, 0, refl, (rows, given, (mets, replies, told, k, refl))) p
    told_end (Err (fault.OldBoot age)) result k p = ends_or status.OldBoot (old_boot_text age) result ((rows, given), record { runs = k.0; ran = k.1; age = age; told = k.2; is = refl }) p
    told_end (Err (fault.Spent c)) result k p = ends_or status.Spent (came_text table rows mets replies told ++ shown_text (shown.Spent c)) result (c, (rows, given, (mets, replies, told, k, refl))) p
    told_end (Err fault.NoMemory) result k p = wanting result p

  -- the same of tables and of rows that are equal to these
  pub told_of : (rows shown listed : List Row) (paths printed : List Path) → shown ≡ rows → listed ≡ rows → paths ≡ table → printed ≡ table → (mets : List Seen) (replies : List Reply) (told : List (List (List ℕ))) (last : Result (List Reply) NodeFault) (result : Status) → GivesRows w.left w.left_after rows
      → Works id boot paths shown w.net w.net_after mets replies told last → TellsAll printed listed mets replies told last result w.held w.held_after w.writes w.writes_after → MountsAll id boot table result w
  told_of rows shown listed paths printed same alike are prints mets replies told last result given k p =
      told_end rows given mets replies told last result (subst (λ t. Works id boot t rows w.net w.net_after mets replies told last) are (subst (λ r. Works id boot paths r w.net w.net_after mets replies told last) same k))
      (subst (λ t. TellsAll t rows mets replies told last result w.held w.held_after w.writes w.writes_after) prints (subst (λ r. TellsAll printed r mets replies told last result w.held w.held_after w.writes w.writes_after) alike p))

-- What is told of calls that met this, and of a fault.
module _ (table : List Path) (rows : List Row) (mets : List Seen) (replies : List Reply) (told : List (List (List ℕ))) (result : Status) (held now : Option (List ℕ)) (before later : ℕ) where
  pub tells_as : (last met : Result (Vec Reply Global) NodeFault) → last ≡ met → TellsAll table rows mets replies told (items_of met) result held now before later → TellsAll table rows mets replies told (items_of last) result held now before later
  tells_as last met is t = subst (λ l. TellsAll table rows mets replies told (items_of l) result held now before later) (sym is) t

  pub tells_fault : (f g : NodeFault) → f ≡ g → TellsAll table rows mets replies told (Err g) result held now before later → TellsAll table rows mets replies told (Err f) result held now before later
  tells_fault f g same t = subst (λ h. TellsAll table rows mets replies told (Err h) result held now before later) (sym same) t
