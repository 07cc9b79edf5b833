-- How a mount ends.
use Rattle.std.proofs.Common.{◌≡◌, ◌+◌, ◌++◌, ℕ, List, [], Result, Ok, Err, refl, sym, ap, ◌∙◌, subst, inl, inr}
use Rattle.std.proofs.KnownBytes.{Appends-nil}
use Rattle.std.specs.Io.KnownBytes.{Appends}
use Rattle.ec_plain.specs.declared.call.Call.{Call}
use Rattle.ec_history.specs.declared.shown.LimitName.TheVariants as limit
use Rattle.ec_history.specs.declared.shown.Shown.TheVariants as shown
use Rattle.ec_streams.specs.declared.streams.WriteFault.{WriteFault}
use Rattle.ec_streams.specs.declared.streams.WriteFault.TheVariants as write
use Rattle.ec_words.specs.OfText.Lines.{shown_text}
use Rattle.ec_outs.specs.Outs.{Reply}
use Rattle.ec_clerknode.specs.declared.fault.NodeFault.{NodeFault}
use Rattle.ec_clerknode.specs.declared.fault.NodeFault.TheVariants as fault
use Rattle.ec_mount.specs.Mount.{Outside, Ends, Mounts}
use Rattle.ec_mount.specs.Run.{place_in}
use Rattle.ec_mount.specs.Script.{most_bytes, GivesRows, lanes_of}
use Rattle.ec_mount.specs.Withheld.{Withholds}
use Rattle.ec_mount.specs.Shown.{came_text, mount_text, old_boot_text, peer_text}
use Rattle.ec_mount.specs.Work.{Given, Works, WorksTo}
use Rattle.ec_mount.specs.Writes.{Wrote, WroteAs, Silent, RefusesRows, TellsEnd, TellsWork, ended_by}
use Rattle.ec_mount.specs.declared.script.Row.{Row}
use Rattle.ec_mount.specs.declared.script.Unread.{Unread}
use Rattle.ec_mount.specs.declared.script.Unread.TheVariants as unread
use Rattle.ec_mount.specs.declared.status.Status.{Status}
use Rattle.ec_mount.specs.declared.status.Status.TheVariants as status

module _ (id boot : ℕ) (w : Outside) where
  whole : (st : Status) (text : List ℕ) → Ends id boot st w text → Appends w.held w.held_after text → Mounts id boot st w
  whole status.Done text e p = (text, e, p)
  whole status.BadLine text e p = (text, e, p)
  whole status.SourceFault text e p = (text, e, p)
  whole status.NetFault text e p = (text, e, p)
  whole status.Limit text e p = (text, e, p)
  whole status.OldBoot text e p = (text, e, p)
  whole status.PeerFault text e p = (text, e, p)
  whole status.Spent text e p = (text, e, p)
  whole status.StartFault text e p = (text, e, p)
  whole status.SinkFault text e p = absurd e
  whole status.NoMemory text e p = absurd e

  ends_by : {A : Type 0} (st : Status) (text : List ℕ) (r : Result A WriteFault) → Ends id boot st w text → Wrote text w.held w.held_after w.writes w.writes_after r → Mounts id boot (ended_by st r) w
  ends_by st text (Ok u) e p = whole st text e p
  ends_by st text (Err write.Failed) e p = (p.1, (st, text, e, p.0))
  ends_by st text (Err write.NoMemory) e p = inl (st, text, e, p.0)

  ends_as : (st : Status) (text : List ℕ) (result : Status) → Ends id boot st w text → WroteAs text st result w.held w.held_after w.writes w.writes_after → Mounts id boot result w
  ends_as st text result e p = subst (λ s. Mounts id boot s w) (sym p.1) (ends_by st text p.0 e p.2)

  silent : (st : Status) (result : Status) → Ends id boot st w [] → Silent st result w.held w.held_after → Mounts id boot result w
  silent st result e p = subst (λ s. Mounts id boot s w) (sym p.0) (whole st [] e (subst (λ h. Appends w.held h []) (sym p.1) (Appends-nil w.held)))

  wanting : (result : Status) → Silent status.NoMemory result w.held w.held_after → Mounts id boot result w
  wanting result p = subst (λ s. Mounts id boot s w) (sym p.0) (inr p.1)

  -- there were no rows
  pub refused : (why : Unread) (result : Status) → w.net_after ≡ w.net → Withholds w.left w.left_after w.reads w.reads_after why → RefusesRows why result w.held w.held_after w.writes w.writes_after → Mounts id boot result w
  refused unread.Bytes result same h p = ends_as status.Limit (shown_text (shown.Limit limit.Bytes (most_bytes + 1))) result (limit.Bytes, most_bytes + 1, (refl, h.0, h.1, h.2), same, refl) p
  refused (unread.Lines n) result same h p = ends_as status.Limit (shown_text (shown.Limit limit.Lines n)) result (limit.Lines, n, h, same, refl) p
  refused (unread.Bad n column) result same h p =
      ends_as status.BadLine (shown_text (shown.Bad n column)) result (record { script = h.0; given = h.1; few_lines = h.2; line = n; column = column; bad = h.3; net = same; is = refl }) p
  refused unread.Source result same h p = silent status.SourceFault result (h, same, refl) p
  refused unread.NoMemory result same h p = wanting result p

  -- the clerk was run
  module _ (rows : List Row) (given : GivesRows w.left w.left_after rows) (all : List (List Reply)) (told : List (List ℕ)) where
    told_end : (last : Result Reply NodeFault) (result : Status) → WorksTo id boot (lanes_of rows) w.net w.net_after all told last → TellsEnd (came_text rows all told) last result w.held w.held_after w.writes w.writes_after → Mounts id boot result w
    told_end (Ok last) result k p = ends_as status.Done (mount_text rows all told last) result (record {
      rows = rows;
      given = given;
      steps = k.0;
      ran = k.1;
      old_boot = k.2.0;
      all = all;
      last = last;
      holds = k.2.1;
      is = ap (λ t. mount_text rows all t last) k.2.2;
    }) p
    told_end (Err fault.Net) result k p = ends_as status.NetFault (came_text rows all told ++ []) result (rows, given, (all, told, k, refl)) p
    told_end (Err (fault.Peer why)) result k p = ends_as status.PeerFault (came_text rows all told ++ peer_text (place_in why)) result (fault.Peer why, place_in why, refl, (rows, given, (all, told, k, refl))) p
    told_end (Err (fault.Long n)) result k p = ends_as status.PeerFault (came_text rows all told ++ peer_text 0) result (fault.Long n, 0, refl, (rows, given, (all, told, k, refl))) p
    told_end (Err (fault.OldBoot age)) result k p = ends_as status.OldBoot (old_boot_text age) result ((rows, given), record { steps = k.0; ran = k.1; age = age; told = k.2; is = refl }) p
    told_end (Err (fault.Spent c)) result k p = ends_as status.Spent (came_text rows all told ++ shown_text (shown.Spent c)) result (c, (rows, given, (all, told, k, refl))) p
    told_end (Err fault.NoMemory) result k p = wanting result p

  -- the same for lanes and rows that are equal to these
  pub told_of : (rows shown listed : List Row) (lanes : List (List Call)) → lanes ≡ lanes_of shown → shown ≡ rows → listed ≡ rows → (id_is : ℕ) → id_is ≡ id → (worked told : Given) → told ≡ worked → (result : Status) → GivesRows w.left w.left_after rows
      → Works id_is boot lanes w.net w.net_after worked → TellsWork listed told result w.held w.held_after w.writes w.writes_after → Mounts id boot result w
  told_of rows shown listed lanes are same alike id_is who worked told both result given k p =
      told_end rows given worked.0 worked.1 worked.2 result (subst (λ n. Works n boot (lanes_of rows) w.net w.net_after worked) who (subst (λ l. Works id_is boot l w.net w.net_after worked) (are ∙ ap lanes_of same) k))
      (subst (λ t. TellsWork rows t result w.held w.held_after w.writes w.writes_after) both (subst (λ r. TellsWork r told result w.held w.held_after w.writes w.writes_after) alike p))
