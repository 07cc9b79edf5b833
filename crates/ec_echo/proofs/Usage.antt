-- The status of words that are of no form.
use Rattle.std.proofs.Common.{◌≡◌, arith, ℕ, List, Option, inl, inr, refl, sym, subst, ap}
use Rattle.std.specs.Prelude.{◌↔◌}
use Rattle.ec_drill.specs.Drill.{Outside, Drilled}
use Rattle.ec_drill.specs.declared.status.Status as drilled
use Rattle.ec_drill.specs.declared.status.Status.TheVariants as drill
use Rattle.ec_history.specs.declared.shown.Shown.TheVariants as shown
use Rattle.ec_words.specs.OfText.Lines.{shown_text}
use Rattle.ec_serve.specs.declared.ending.Ending.{Ending}
use Rattle.ec_serve.specs.declared.ending.Ending.TheVariants as ending
use Rattle.ec_lease.specs.declared.drill.status.Status as leased
use Rattle.ec_lease.specs.declared.drill.status.Status.TheVariants as lease
use Rattle.ec_mount.specs.declared.status.Status as mounted
use Rattle.ec_mount.specs.declared.status.Status.TheVariants as mount
use Rattle.ec_echo.specs.Echo.{Links}
use Rattle.ec_echo.specs.Forms.{DoesForm, Echoes}
use Rattle.ec_echo.specs.Soak.{Told, TellsCounts, summary_text, last_text}
use Rattle.ec_echo.specs.SoakDrills.{Soaked}
use Rattle.ec_echo.specs.Serving.{TellsEnding}
use Rattle.ec_echo.specs.Statuses.{code, of_drill, of_leases, of_mount}
use Rattle.ec_echo.specs.Written.{TellsText, WroteWith}
use Rattle.ec_echo.specs.Words.{Spells}
use Rattle.ec_echo.specs.declared.command.Command.{Command}
use Rattle.ec_echo.specs.declared.command.Command.TheVariants.{Drill, Check, Make, Soak, Serve, Mount, Leases, MountTable}
use Rattle.ec_echo.specs.declared.status.Status.{Status}
use Rattle.ec_echo.specs.declared.status.Status.TheVariants as status

is_usage : (st : Status) → code st ≡ 2 → st ≡ status.Usage
is_usage status.Done e = absurd (grind (arith, e))
is_usage status.Usage e = refl
is_usage status.BadLine e = absurd (grind (arith, e))
is_usage status.SourceFault e = absurd (grind (arith, e))
is_usage status.SinkFault e = absurd (grind (arith, e))
is_usage status.DiskFault e = absurd (grind (arith, e))
is_usage status.BadDisk e = absurd (grind (arith, e))
is_usage status.NoMemory e = absurd (grind (arith, e))
is_usage status.Limit e = absurd (grind (arith, e))
is_usage status.Illegal e = absurd (grind (arith, e))
is_usage status.Spent e = absurd (grind (arith, e))
is_usage status.NetFault e = absurd (grind (arith, e))
is_usage status.StartFault e = absurd (grind (arith, e))
is_usage status.OldBoot e = absurd (grind (arith, e))
is_usage status.PeerFault e = absurd (grind (arith, e))

drill_not : (most : ℕ) (end : drilled.Status) (w : Outside) → Drilled most end w → status.Usage ≡ of_drill end → ⊥
drill_not most drill.Usage w d e = d
drill_not most drill.Done w d e = absurd (grind (arith, e))
drill_not most drill.BadLine w d e = absurd (grind (arith, e))
drill_not most drill.SourceFault w d e = absurd (grind (arith, e))
drill_not most drill.SinkFault w d e = absurd (grind (arith, e))
drill_not most drill.DiskFault w d e = absurd (grind (arith, e))
drill_not most drill.BadDisk w d e = absurd (grind (arith, e))
drill_not most drill.NoMemory w d e = absurd (grind (arith, e))
drill_not most drill.Limit w d e = absurd (grind (arith, e))
drill_not most drill.Spent w d e = absurd (grind (arith, e))

wrote_not : (text : List ℕ) (st : Status) (held now : Option (List ℕ)) (before later : ℕ) → (status.Usage ≡ st → ⊥) → WroteWith text st status.Usage held now before later → ⊥
wrote_not text st held now before later not (inl w) = not w.0
wrote_not text st held now before later not (inr (inl w)) = absurd (grind (arith, w.0))
wrote_not text st held now before later not (inr (inr w)) = absurd (grind (arith, w.0))

text_not : (text : List ℕ) (st : Status) (held now : Option (List ℕ)) (before later : ℕ) → (status.Usage ≡ st → ⊥) → TellsText text st status.Usage held now before later → ⊥
text_not text st held now before later not (inl w) = wrote_not text st held now before later not w
text_not text st held now before later not (inr w) = absurd (grind (arith, w.0))

counts_not : (number : ℕ) (transcript : List ℕ) (held now : Option (List ℕ)) (before later : ℕ) → TellsCounts number transcript status.Usage held now before later → ⊥
counts_not number transcript held now before later (inl t) = wrote_not (summary_text number t.0) status.Done held now before later (λ e. absurd (grind (arith, e))) t.2
counts_not number transcript held now before later (inr w) = absurd (grind (arith, w.0))

told_not : (number : ℕ) (end : drilled.Status) (transcript : List ℕ) (held now : Option (List ℕ)) (before later : ℕ) → (end ≡ drill.Usage → ⊥) → Told number end transcript status.Usage held now before later → ⊥
told_not number drill.Done transcript held now before later not t = counts_not number transcript held now before later t
told_not number drill.BadLine transcript held now before later not t = text_not (last_text transcript) status.BadLine held now before later (λ e. absurd (grind (arith, e))) t
told_not number drill.BadDisk transcript held now before later not t = text_not (last_text transcript) status.BadDisk held now before later (λ e. absurd (grind (arith, e))) t
told_not number drill.Limit transcript held now before later not t = text_not (last_text transcript) status.Limit held now before later (λ e. absurd (grind (arith, e))) t
told_not number drill.Spent transcript held now before later not t = text_not (last_text transcript) status.Spent held now before later (λ e. absurd (grind (arith, e))) t
told_not number drill.Usage transcript held now before later not t = not refl
told_not number drill.SourceFault transcript held now before later not t = absurd (grind (arith, t.0))
told_not number drill.SinkFault transcript held now before later not t = absurd (grind (arith, t.0))
told_not number drill.DiskFault transcript held now before later not t = absurd (grind (arith, t.0))
told_not number drill.NoMemory transcript held now before later not t = absurd (grind (arith, t.0))

-- no drill comes to this status
drilled_not : (most : ℕ) (end : drilled.Status) (w : Outside) → Drilled most end w → end ≡ drill.Usage → ⊥
drilled_not most end w d e = subst (λ (x : drilled.Status). Drilled most x w) e d

soaked_not : (number : ℕ) (w : Outside) → Soaked number status.Usage w → ⊥
soaked_not number w (inl s) = told_not number s.end s.transcript w.sink.bytes w.sink.bytes_after w.sink.faults w.sink.faults_after (drilled_not _ s.end _ s.drilled_so) s.told
soaked_not number w (inr s) = absurd (grind (arith, s.result_is))

ending_not : (end : Ending) (held now : Option (List ℕ)) (before later : ℕ) → TellsEnding end status.Usage held now before later → ⊥
ending_not ending.Done held now before later t = absurd (grind (arith, t.0))
ending_not ending.DiskFailed held now before later t = absurd (grind (arith, t.0))
ending_not (ending.BadDisk place) held now before later t = text_not (shown_text (shown.DiskBad place)) status.BadDisk held now before later (λ e. absurd (grind (arith, e))) t
ending_not ending.NetFailed held now before later t = absurd (grind (arith, t.0))
ending_not ending.NoMemory held now before later t = absurd (grind (arith, t.0))
ending_not ending.NotStarted held now before later t = absurd (grind (arith, t.0))
ending_not (ending.Spent n) held now before later t = text_not (shown_text (shown.Spent n)) status.Spent held now before later (λ e. absurd (grind (arith, e))) t

mount_not : (end : mounted.Status) → status.Usage ≡ of_mount end → ⊥
mount_not mount.Done e = absurd (grind (arith, e))
mount_not mount.BadLine e = absurd (grind (arith, e))
mount_not mount.SourceFault e = absurd (grind (arith, e))
mount_not mount.SinkFault e = absurd (grind (arith, e))
mount_not mount.NetFault e = absurd (grind (arith, e))
mount_not mount.NoMemory e = absurd (grind (arith, e))
mount_not mount.StartFault e = absurd (grind (arith, e))
mount_not mount.Limit e = absurd (grind (arith, e))
mount_not mount.OldBoot e = absurd (grind (arith, e))
mount_not mount.PeerFault e = absurd (grind (arith, e))
mount_not mount.Spent e = absurd (grind (arith, e))

leases_not : (end : leased.Status) → status.Usage ≡ of_leases end → ⊥
leases_not lease.Done e = absurd (grind (arith, e))
leases_not lease.BadLine e = absurd (grind (arith, e))
leases_not lease.SourceFault e = absurd (grind (arith, e))
leases_not lease.SinkFault e = absurd (grind (arith, e))
leases_not lease.DiskFault e = absurd (grind (arith, e))
leases_not lease.BadDisk e = absurd (grind (arith, e))
leases_not lease.NoMemory e = absurd (grind (arith, e))
leases_not lease.Limit e = absurd (grind (arith, e))
leases_not lease.Spent e = absurd (grind (arith, e))

does_not : (boot : ℕ) (words : List (List ℕ)) (c : Command) (w : Outside) (n : Links) → DoesForm boot words c status.Usage w n → ⊥
does_not boot words (Drill most) w n d = drill_not most d.0.0 w d.0.2 d.0.1
does_not boot words (Check most) w n d = absurd (d.0.0.1)
does_not boot words (Make number) w n d = d.0.0
does_not boot words (Soak number) w n d = soaked_not number w d.0.0
does_not boot words (Serve count) w n d = ending_not d.0.0 w.sink.bytes w.sink.bytes_after w.sink.faults w.sink.faults_after d.0.2
does_not boot words (Mount clerk) w n d = mount_not d.0 d.1
does_not boot words (Leases l e) w n d = leases_not d.0.0 d.0.1
does_not boot words (MountTable clerk) w n d = mount_not d.0 d.1

-- words of no form, and no others, come to this status
pub usage-of : (boot : ℕ) (words : List (List ℕ)) (st : Status) (w : Outside) (n : Links) → Echoes boot words st w n → (code st ≡ 2) ↔ ((c : Command) → Spells words c → ⊥)
usage-of boot words st w n (inl e) = (λ two. e.1, λ none. ap code e.0)
usage-of boot words st w n (inr e) = (λ two. absurd (does_not boot words e.0 w n (subst (λ (s : Status). DoesForm boot words e.0 s w n) (is_usage st two) e.2)), λ none. absurd (none e.0 e.1))

pub answers-usage : (boot : ℕ) (words : List (List ℕ)) (k : ℕ) (w : Outside) (n : Links) → (st : Status) × (k ≡ code st) × Echoes boot words st w n → (k ≡ 2) ↔ ((c : Command) → Spells words c → ⊥)
answers-usage boot words k w n e = subst (λ (k : ℕ). (k ≡ 2) ↔ ((c : Command) → Spells words c → ⊥)) (sym e.1) (usage-of boot words e.0 w n e.2)
