-- What the program does over two disks.
use Rattle.std.proofs.Common.{◌≡◌, ◌⊎◌, ◌∙◌, arith, ℕ, List, [], ◌∷◌, Option, None, Some, inl, inr, refl, sym, subst, ap, ⊎_elim}
use Rattle.std.specs.Prelude.{◌≤◌, Bool, true, false, Result, Ok, Err, IfOk, IsSome, MatchResult}
use Rattle.ec_base.proofs.Equalities.{apart-two}
use Rattle.ec_base.proofs.OutsideLemmas.{rose_later}
use Rattle.ec_base.specs.Outside.{Rose}
use Rattle.ec_disk.specs.Disk.{View, Counts}
use Rattle.ec_drill.specs.Drill.{Drilled}
use Rattle.ec_drill.specs.Limits.{most_objects}
use Rattle.ec_drill.specs.Seen.{Stream, Store}
use Rattle.ec_drill.specs.declared.status.Status as drilled
use Rattle.ec_drill.specs.declared.status.Status.TheVariants as drill
use Rattle.ec_history.specs.declared.shown.Shown.TheVariants as shown
use Rattle.ec_words.specs.OfText.Lines.{shown_text}
use Rattle.ec_serve.specs.Serve.{Serves, Outside as Serving}
use Rattle.ec_serve.specs.declared.ending.Ending.{Ending}
use Rattle.ec_serve.specs.declared.ending.Ending.TheVariants as ending
use Rattle.ec_lease.specs.OfDrill.Drill.{LeaseDrilled}
use Rattle.ec_lease.specs.declared.drill.status.Status as leased
use Rattle.ec_lease.specs.declared.drill.status.Status.TheVariants as lease
use Rattle.ec_half.specs.declared.fault.MirrorFault.{MirrorFault}
use Rattle.ec_half.specs.declared.fault.MirrorFault.TheVariants as fault
use Rattle.ec_mirror.specs.Disks.{StandsOver, Standing, faults_in}
use Rattle.ec_echo.specs.DiskUse.{uses_disk}
use Rattle.ec_echo.specs.Echo.{Links, leasing, serving}
use Rattle.ec_echo.specs.Serving.{Served, TellsEnding}
use Rattle.ec_echo.specs.Soak.{Told, TellsCounts, summary_text, last_text}
use Rattle.ec_echo.specs.Statuses.{code, of_drill, of_leases}
use Rattle.ec_echo.specs.Mirroring.{Kind, Mirrored, Opened, Promised, RanMirrored, Refused, TellsFault, UsesDisk, UsesNone, mirror_text}
use Rattle.ec_echo.specs.OfNamed.Forms.{DoesServe, outside}
use Rattle.ec_echo.specs.OfNamed.Seen.{store}
use Rattle.ec_echo.specs.OfNamed.Soaks.{DoesSoak, SoaksOnce, made, transcribed}
use Rattle.ec_echo.specs.Words.{Spells}
use Rattle.ec_echo.specs.Written.{TellsText, WroteWith, WroteNothing}
use Rattle.ec_echo.specs.declared.command.Command.{Command}
use Rattle.ec_echo.specs.declared.command.Command.TheVariants.{Drill, Check, Make, Soak, Serve, Mount, Leases, MountTable}
use Rattle.ec_echo.specs.declared.status.Status.{Status}
use Rattle.ec_echo.specs.declared.status.Status.TheVariants as status

is_fault : (st : Status) → code st ≡ 6 → st ≡ status.DiskFault
is_fault status.Done e = absurd (grind (arith, e))
is_fault status.Usage e = absurd (grind (arith, e))
is_fault status.BadLine e = absurd (grind (arith, e))
is_fault status.SourceFault e = absurd (grind (arith, e))
is_fault status.SinkFault e = absurd (grind (arith, e))
is_fault status.DiskFault e = refl
is_fault status.BadDisk e = absurd (grind (arith, e))
is_fault status.NoMemory e = absurd (grind (arith, e))
is_fault status.Limit e = absurd (grind (arith, e))
is_fault status.Illegal e = absurd (grind (arith, e))
is_fault status.Spent e = absurd (grind (arith, e))
is_fault status.NetFault e = absurd (grind (arith, e))
is_fault status.StartFault e = absurd (grind (arith, e))
is_fault status.OldBoot e = absurd (grind (arith, e))
is_fault status.PeerFault e = absurd (grind (arith, e))

wrote_not : (text : List ℕ) (st : Status) (held now : Option (List ℕ)) (before later : ℕ) → (status.DiskFault ≡ st → ⊥) → WroteWith text st status.DiskFault held now before later → ⊥
wrote_not text st held now before later not (inl w) = not w.0
wrote_not text st held now before later not (inr (inl w)) = absurd (grind (arith, w.0))
wrote_not text st held now before later not (inr (inr w)) = absurd (grind (arith, w.0))

last_not : (transcript : List ℕ) (st : Status) (held now : Option (List ℕ)) (before later : ℕ) → (status.DiskFault ≡ st → ⊥) → TellsText (last_text transcript) st status.DiskFault held now before later → ⊥
last_not transcript st held now before later not (inl w) = wrote_not (last_text transcript) st held now before later not w
last_not transcript st held now before later not (inr w) = absurd (grind (arith, w.0))

counts_not : (number : ℕ) (transcript : List ℕ) (held now : Option (List ℕ)) (before later : ℕ) → TellsCounts number transcript status.DiskFault held now before later → ⊥
counts_not number transcript held now before later (inl t) = wrote_not (summary_text number t.0) status.Done held now before later (λ e. absurd (grind (arith, e))) t.2
counts_not number transcript held now before later (inr w) = absurd (grind (arith, w.0))

-- a soak ends so where its drill does
drill_fault : (number : ℕ) (end : drilled.Status) (transcript : List ℕ) (held now : Option (List ℕ)) (before later : ℕ) → Told number end transcript status.DiskFault held now before later → end ≡ drill.DiskFault
drill_fault number drill.Done transcript held now before later t = absurd (counts_not number transcript held now before later t)
drill_fault number drill.BadLine transcript held now before later t = absurd (last_not transcript status.BadLine held now before later (λ e. absurd (grind (arith, e))) t)
drill_fault number drill.BadDisk transcript held now before later t = absurd (last_not transcript status.BadDisk held now before later (λ e. absurd (grind (arith, e))) t)
drill_fault number drill.Limit transcript held now before later t = absurd (last_not transcript status.Limit held now before later (λ e. absurd (grind (arith, e))) t)
drill_fault number drill.Spent transcript held now before later t = absurd (last_not transcript status.Spent held now before later (λ e. absurd (grind (arith, e))) t)
drill_fault number drill.Usage transcript held now before later t = absurd (grind (arith, t.0))
drill_fault number drill.SourceFault transcript held now before later t = absurd (grind (arith, t.0))
drill_fault number drill.SinkFault transcript held now before later t = absurd (grind (arith, t.0))
drill_fault number drill.DiskFault transcript held now before later t = refl
drill_fault number drill.NoMemory transcript held now before later t = absurd (grind (arith, t.0))

text_not : (text : List ℕ) (st : Status) (held now : Option (List ℕ)) (before later : ℕ) → (status.DiskFault ≡ st → ⊥) → TellsText text st status.DiskFault held now before later → ⊥
text_not text st held now before later not (inl w) = wrote_not text st held now before later not w
text_not text st held now before later not (inr w) = absurd (grind (arith, w.0))

-- a server ends so where its disk failed
server_fault : (count : ℕ) (end : Ending) (held now : Option (List ℕ)) (before later : ℕ) (w : Serving) → Serves count end w → TellsEnding end status.DiskFault held now before later → Rose w.counts.faults w.counts_after.faults
server_fault count ending.Done held now before later w s t = absurd (grind (arith, t.0))
server_fault count ending.DiskFailed held now before later w s t = s
server_fault count (ending.BadDisk place) held now before later w s t = absurd (text_not (shown_text (shown.DiskBad place)) status.BadDisk held now before later (λ e. absurd (grind (arith, e))) t)
server_fault count ending.NetFailed held now before later w s t = absurd (grind (arith, t.0))
server_fault count ending.NoMemory held now before later w s t = absurd (grind (arith, t.0))
server_fault count ending.NotStarted held now before later w s t = absurd (grind (arith, t.0))
server_fault count (ending.Spent n) held now before later w s t = absurd (text_not (shown_text (shown.Spent n)) status.Spent held now before later (λ e. absurd (grind (arith, e))) t)

module _ (result : ℕ) (source sink : Stream) (store : Store) (is : result ≡ 6) where
  soak_fault : (number : ℕ) → DoesSoak result source sink store number → Rose store.counts.faults store.counts_after.faults
  soak_fault number (st, code_is, inl s, rest) =
      let so = is_fault st (sym code_is ∙ is) in
      let end = drill_fault number s.end s.transcript sink.bytes sink.bytes_after sink.faults sink.faults_after (subst (λ (x : Status). Told number s.end s.transcript x sink.bytes sink.bytes_after sink.faults sink.faults_after) so s.told) in
      (subst (λ (x : drilled.Status). Drilled most_objects x (outside (made number s.left_after) (transcribed s.transcript) store)) end s.drilled_so).0
  soak_fault number (st, code_is, inr none, rest) = absurd (grind (arith, sym (is_fault st (sym code_is ∙ is)) ∙ none.result_is))

  serve_fault : (count : ℕ) (n : Links) → DoesServe result (outside source sink store) n count → Rose store.counts.faults store.counts_after.faults
  serve_fault count n (st, code_is, served, rest) =
      let so = is_fault st (sym code_is ∙ is) in
      let s = subst (λ (x : Status). Served count x sink.bytes sink.bytes_after sink.faults sink.faults_after (serving (outside source sink store) n)) so served in
      server_fault count s.0 sink.bytes sink.bytes_after sink.faults sink.faults_after (serving (outside source sink store) n) s.1 s.2

  lease_fault : (l e : ℕ) (end : leased.Status) → result ≡ code (of_leases end) → LeaseDrilled l e end (leasing (outside source sink store)) → Rose store.counts.faults store.counts_after.faults
  lease_fault l e lease.Done code_is d = absurd (grind (arith, sym code_is ∙ is))
  lease_fault l e lease.BadLine code_is d = absurd (grind (arith, sym code_is ∙ is))
  lease_fault l e lease.SourceFault code_is d = absurd (grind (arith, sym code_is ∙ is))
  lease_fault l e lease.SinkFault code_is d = absurd (grind (arith, sym code_is ∙ is))
  lease_fault l e lease.DiskFault code_is d = d.0
  lease_fault l e lease.BadDisk code_is d = absurd (grind (arith, sym code_is ∙ is))
  lease_fault l e lease.NoMemory code_is d = absurd (grind (arith, sym code_is ∙ is))
  lease_fault l e lease.Limit code_is d = absurd (grind (arith, sym code_is ∙ is))
  lease_fault l e lease.Spent code_is d = absurd (grind (arith, sym code_is ∙ is))

  pub disk-failed : (boot : ℕ) (words : List (List ℕ)) (n : Links) → Promised boot words result source sink store n → UsesDisk words → Rose store.counts.faults store.counts_after.faults
  disk-failed boot words n p (Drill most, s, uses) = (p.lines.statuses most s).disk_failed is
  disk-failed boot words n p (Soak number, s, uses) = soak_fault number (p.forms.soak number s)
  disk-failed boot words n p (Serve count, s, uses) = serve_fault count n (p.forms.serve count s)
  disk-failed boot words n p (Leases l e, s, uses) = let d = p.forms.leases l e s in lease_fault l e d.0 d.1 d.2
  disk-failed boot words n p (Check most, s, uses) = absurd (grind (arith, uses))
  disk-failed boot words n p (Make number, s, uses) = absurd (grind (arith, uses))
  disk-failed boot words n p (Mount clerk, s, uses) = absurd (grind (arith, uses))
  disk-failed boot words n p (MountTable clerk, s, uses) = absurd (grind (arith, uses))

-- the same promises, of equal mirrors
pub promised-moved : {M : Type 0} (tells : Type 0) (view : M → View) (counts : M → Counts) (boot : ℕ) (words : List (List ℕ)) (result : ℕ) (source sink : Stream) (n : Links) (a b c d : M)
    → a ≡ b → c ≡ d → Promised boot words result source sink (store tells view counts a c) n → Promised boot words result source sink (store tells view counts b d) n
promised-moved {M} tells view counts boot words result source sink n a b c d first last p =
    subst (λ (x : M). Promised boot words result source sink (store tells view counts x d) n) first
    (subst (λ (x : M). Promised boot words result source sink (store tells view counts a x) n) last p)

-- a line was written, or there was no memory for it
pub text-told : {X E : Type 0} (text : Result X E) (items : X → List ℕ) (line : List ℕ) (st result : Status) (held now : Option (List ℕ)) (before later : ℕ) → IfOk text (λ t. items t ≡ line)
    → MatchResult text (λ t. WroteWith (items t) st result held now before later) (λ e. WroteNothing result held now) → TellsText line st result held now before later
text-told (Ok t) items line st result held now before later e w = inl (subst (λ xs. WroteWith xs st result held now before later) e w)
text-told (Err x) items line st result held now before later e w = inr w

-- no fault of an opening has the status of words that are of no form
bad_not : (text : List ℕ) (st : Status) (held now : Option (List ℕ)) (before later : ℕ) → TellsText text status.BadDisk st held now before later → code st ≡ 2 → ⊥
bad_not text st held now before later (inl (inl w)) e = absurd (grind (arith, sym (ap code w.0) ∙ e))
bad_not text st held now before later (inl (inr (inl w))) e = absurd (grind (arith, sym (ap code w.0) ∙ e))
bad_not text st held now before later (inl (inr (inr w))) e = absurd (grind (arith, sym (ap code w.0) ∙ e))
bad_not text st held now before later (inr w) e = absurd (grind (arith, sym (ap code w.0) ∙ e))

pub fault-not-usage : (why : MirrorFault) (st : Status) (sink : Stream) → TellsFault why st sink → code st ≡ 2 → ⊥
fault-not-usage (fault.BadMirror which place) st sink t e = bad_not (mirror_text which place) st sink.bytes sink.bytes_after sink.faults sink.faults_after t e
fault-not-usage fault.DiskFailed st sink t e = absurd (grind (arith, sym (ap code t.0) ∙ e))
fault-not-usage fault.DiskStopped st sink t e = absurd (grind (arith, sym (ap code t.0) ∙ e))
fault-not-usage fault.NoMemory st sink t e = absurd (grind (arith, sym (ap code t.0) ∙ e))

-- one that has the status of a disk's failure is just that
bad_not_six : (text : List ℕ) (st : Status) (held now : Option (List ℕ)) (before later : ℕ) → TellsText text status.BadDisk st held now before later → code st ≡ 6 → ⊥
bad_not_six text st held now before later (inl (inl w)) e = absurd (grind (arith, sym (ap code w.0) ∙ e))
bad_not_six text st held now before later (inl (inr (inl w))) e = absurd (grind (arith, sym (ap code w.0) ∙ e))
bad_not_six text st held now before later (inl (inr (inr w))) e = absurd (grind (arith, sym (ap code w.0) ∙ e))
bad_not_six text st held now before later (inr w) e = absurd (grind (arith, sym (ap code w.0) ∙ e))

pub fault-of-six : (why : MirrorFault) (st : Status) (sink : Stream) → TellsFault why st sink → code st ≡ 6 → why ≡ fault.DiskFailed
fault-of-six (fault.BadMirror which place) st sink t e = absurd (bad_not_six (mirror_text which place) st sink.bytes sink.bytes_after sink.faults sink.faults_after t e)
fault-of-six fault.DiskFailed st sink t e = refl
fault-of-six fault.DiskStopped st sink t e = absurd (grind (arith, sym (ap code t.0) ∙ e))
fault-of-six fault.NoMemory st sink t e = absurd (grind (arith, sym (ap code t.0) ∙ e))

-- a disk that isn't armed isn't armed by a call that arms none
pub unarmed-still : (before after : Option ℕ) → before ≡ None → (IsSome after → IsSome before) → after ≡ None
unarmed-still before None none arms = refl
unarmed-still before (Some n) none arms = absurd (apart-two (subst IsSome none (arms refl)))

-- the same refusal, of equal disks
pub refused-moved : {A B : Type 0} (a : Kind A) (b : Kind B) (result : ℕ) (source sink : Stream) (n : Links) (first first_back first_after : A) (second second_back second_after : B)
    → Refused a b result source sink n first first_back second second_back → first_back ≡ first_after → second_back ≡ second_after → Refused a b result source sink n first first_after second second_after
refused-moved {A} {B} a b result source sink n first first_back first_after second second_back second_after refused one two =
    subst (λ (x : A). Refused a b result source sink n first x second second_after) one
    (subst (λ (y : B). Refused a b result source sink n first first_back second y) two refused)

-- a count that rose from 0
pub rose-some : (before later : ℕ) → before ≡ 0 → Rose before later → 1 ≤ later
rose-some before later none rose = grind (arith, none, rose)

-- how the disks stand to a mirror, by what they were before
pub over-since : (told : Type 0) (s : Standing) (faults a b c d : ℕ) (mirror first second : View) (first_counts second_counts : Counts) → a ≤ c → b ≤ d → StandsOver told s faults c d mirror first second first_counts second_counts → StandsOver told s faults a b mirror first second first_counts second_counts
over-since told s faults a b c d mirror first second first_counts second_counts le more is = record {
  first_later = omega (arith, le, is.first_later);
  second_later = omega (arith, more, is.second_later);
  first_dropped = λ out. one (is.first_dropped out);
  second_dropped = λ out. two (is.second_dropped out);
  both_failed = λ failed alone. (one (is.both_failed failed alone).0, two (is.both_failed failed alone).1);
  one_failed = λ failed. ⊎_elim (λ r. inl (one r)) (λ r. inr (two r)) (is.one_failed failed);
  first_gives = is.first_gives;
  second_gives = is.second_gives;
  first_left = is.first_left;
  second_left = is.second_left;
}
  where
    one : Rose c first_counts.faults → Rose a first_counts.faults
    one r = rose_later a c first_counts.faults le r

    two : Rose d second_counts.faults → Rose b second_counts.faults
    two r = rose_later b d second_counts.faults more r

-- the same, of equal disks
pub over-moved : {A B : Type 0} (told : Type 0) (s : Standing) (faults a b c d : ℕ) (mirror : View) (first_view : A → View) (second_view : B → View) (first_counts : A → Counts) (second_counts : B → Counts) (first first_is : A) (second second_is : B)
    → StandsOver told s faults a b mirror (first_view first) (second_view second) (first_counts first) (second_counts second) → a ≡ c → b ≡ d → first ≡ first_is → second ≡ second_is → StandsOver told s faults c d mirror (first_view first_is) (second_view second_is) (first_counts first_is) (second_counts second_is)
over-moved {A} {B} told s faults a b c d mirror first_view second_view first_counts second_counts first first_is second second_is over one two three four =
    subst (λ (n : ℕ). StandsOver told s faults n d mirror (first_view first_is) (second_view second_is) (first_counts first_is) (second_counts second_is)) one
    (subst (λ (n : ℕ). StandsOver told s faults a n mirror (first_view first_is) (second_view second_is) (first_counts first_is) (second_counts second_is)) two
    (subst (λ (x : A). StandsOver told s faults a b mirror (first_view x) (second_view second_is) (first_counts x) (second_counts second_is)) three
    (subst (λ (y : B). StandsOver told s faults a b mirror (first_view first) (second_view y) (first_counts first) (second_counts y)) four over)))

-- the faults that were counted before a disk was handed in
pub before-of : {D : Type 0} (counts : D → Counts) (from : List D) (before : D) (n : ℕ) → from ≡ before ∷ [] → n ≤ (counts before).faults → n ≤ faults_in counts from
before-of {D} counts from before n is le = subst (λ (l : List D). n ≤ faults_in counts l) (sym is) le

-- words that use a disk aren't such as use none
pub uses-some : (words : List (List ℕ)) → UsesDisk words → UsesNone words → ⊥
uses-some words (c, s, uses) none = not_both (uses_disk c) uses (none c s)
  where
    not_both : (b : Bool) → b ≡ true → b ≡ false → ⊥
    not_both b one other = absurd (grind (arith, one, other))

-- what was run over a mirror that was opened, by the disks that came back
module _ {A B M : Type 0} (a : Kind A) (b : Kind B) (mirror : Kind M) (boot : ℕ) (words : List (List ℕ)) (result : ℕ) (source sink : Stream) (n : Links) where
  pub mirrored-so : (first first_back first_after : A) (second second_back second_after : B) (opened : M) (first_before second_before : ℕ) → Opened a b mirror first second opened → UsesDisk words
      → (a.counts first).faults ≤ first_before → (b.counts second).faults ≤ second_before → RanMirrored a b mirror boot words result source sink n opened first_before second_before first_back second_back
      → first_back ≡ first_after → second_back ≡ second_after → Mirrored a b mirror boot words result source sink n first first_after second second_after
  mirrored-so first first_back first_after second second_back second_after opened first_before second_before opens uses le more ran one two =
      let over = over-moved (a.tells × b.tells) ran.standing (mirror.counts ran.ended).faults first_before second_before first_before second_before (mirror.view ran.ended) a.view b.view a.counts b.counts first_back first_after second_back second_after ran.over refl refl one two in
      let since = over-since (a.tells × b.tells) ran.standing (mirror.counts ran.ended).faults (a.counts first).faults (b.counts second).faults first_before second_before (mirror.view ran.ended) (a.view first_after) (b.view second_after) (a.counts first_after) (b.counts second_after) le more over in
      let failed = λ (is : result ≡ 6). rose-some (mirror.counts opened).faults (mirror.counts ran.ended).faults (ap (λ (c : Counts). c.faults) opens.counts) (disk-failed result source sink (store mirror.tells mirror.view mirror.counts opened ran.ended) is boot words n ran.promised uses) in
      record {
        opened = opened;
        opens = opens;
        ran = record { ended = ran.ended; promised = ran.promised; standing = ran.standing; over = since };
        disk_failed = λ is. since.one_failed (failed is);
        both_failed = λ is alone. since.both_failed (failed is) alone;
      }
