-- A drill over a plain script ends well on a new disk, or something outside of it failed.
use Rattle.std.proofs.Common.{◌≡◌, ◌≤◌, ◌<◌, ◌+◌, ℕ, List, ◌++◌, length, Option, Some, None, sym, ap, subst, ◌∙◌, arith, inl, inr, append-nil}
use Rattle.std.specs.Io.KnownBytes.{Consumes, IsAtEnd}
use Rattle.std.proofs.Math.Logic.{∥∥₁_elim, ∥∥₁_map}
use Rattle.std.proofs.lemmas.List.{length-append}
use Rattle.ec_history.specs.declared.shown.LimitName.{LimitName}
use Rattle.ec_history.specs.declared.shown.LimitName.TheVariants as limit
use Rattle.ec_script.specs.Lines.{lines_of}
use Rattle.ec_protocol.specs.Drill.{Read}
use Rattle.ec_complete.specs.PlainScripts.{IsPlainScript}
use Rattle.ec_drill.specs.Drill.{Outside, Drilled, IsGiven, IsOver}
use Rattle.ec_drill.specs.Script.{AreRead}
use Rattle.ec_drill.specs.declared.status.Status.{Status}
use Rattle.ec_drill.specs.declared.status.Status.TheVariants as status
use Rattle.ec_drill.specs.OfPromise.Completes.{GivesPlainScript}
use Rattle.ec_drill.specs.OfPromise.PlainEnds.{Completes, EndsPlainly}
use Rattle.ec_drill.specs.OfPromise.LawfulEnds.{HasNewDisk, IsLawful}

-- what a source gave to its end is what it had
all-given : (xs script : List ℕ) (left : Option (List ℕ)) → Consumes (Some xs) left script → IsAtEnd left → script ≡ xs
all-given xs script None gave end = absurd gave
all-given xs script (Some ys) gave end = sym (gave ∙ ap (λ z. script ++ z) end ∙ append-nil script)

-- and it never gives more
no-more : (xs bytes : List ℕ) (left : Option (List ℕ)) → Consumes (Some xs) left bytes → length bytes ≤ length xs
no-more xs bytes None gave = absurd gave
no-more xs bytes (Some ys) gave = let is = ap length gave ∙ length-append bytes ys in omega (arith, is)

none : (x y : ⊥) → x ≡ y
none x y = absurd x

module _ (most : ℕ) (w : Outside) (new : HasNewDisk w) (given : GivesPlainScript most w.source.bytes) where
  whole : (script : List ℕ) → Consumes w.source.bytes w.source.bytes_after script → IsAtEnd w.source.bytes_after → script ≡ given.script
  whole script gave end = all-given given.script script w.source.bytes_after (subst (λ left. Consumes left w.source.bytes_after script) given.gives gave) end

  plain : (reads : List Read) → IsGiven w.source reads → IsPlainScript most reads
  plain reads g = given.plain reads (subst (λ s. AreRead (lines_of s) reads) (whole g.script g.given g.at_end) g.read)

  within-limits : (name : LimitName) (n : ℕ) → IsOver w name n → ⊥
  within-limits limit.Bytes n o = few n (length o.1) (length given.script) o.0 o.3 (no-more given.script o.1 w.source.bytes_after (subst (λ left. Consumes left w.source.bytes_after o.1) given.gives o.2)) given.few_bytes
    where
      few : (n k m : ℕ) → n ≡ 1048576 + 1 → k ≡ n → k ≤ m → m ≤ 1048576 → ⊥
      few n k m a b c d = absurd (omega (arith, a, b, c, d))
  within-limits limit.Lines n o = few n (length (lines_of o.0)) o.2 o.3 (subst (λ s. length (lines_of s) ≤ 65536) (sym (whole o.0 (o.1).given (o.1).at_end)) given.few_lines)
    where
      few : (n k : ℕ) → n ≡ k → 65536 < n → k ≤ 65536 → ⊥
      few n k a b c = absurd (omega (arith, a, b, c))
  within-limits limit.Pending n o = o

  ends : (end : Status) (d : Drilled most end w) → IsLawful most end w d → EndsPlainly most end w d
  ends status.Done d lawful = ∥∥₁_map (lawful.2 new (plain d.reads d.given)) (λ z. z.1)
  ends status.BadLine d lawful = ∥∥₁_elim (lawful.2 new (plain d.reads d.given)) none (λ z. absurd (omega (arith, z.0)))
  ends status.Limit (inl told) lawful = within-limits told.0 told.1 told.2
  ends status.Limit (inr d) lawful = ∥∥₁_elim (lawful.2 new (plain d.reads d.given)) none (λ z. absurd (omega (arith, z.0)))
  ends status.Spent d lawful = ∥∥₁_elim (lawful.2 new (plain d.reads d.given)) none (λ z. absurd (omega (arith, z.0)))
  ends status.BadDisk d lawful = (d.3 new.tells).0 new.empty
  ends status.SourceFault d lawful = tt
  ends status.SinkFault d lawful = tt
  ends status.DiskFault d lawful = tt
  ends status.NoMemory d lawful = tt
  ends status.Usage d lawful = d

pub drills-complete : (most : ℕ) (end : Status) (w : Outside) (d : Drilled most end w) → IsLawful most end w d → Completes most end w d
drills-complete most end w d lawful new given = ends most w new given end d lawful
