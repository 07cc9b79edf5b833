-- What the reading of the source gives the drill.
use Rattle.std.proofs.Common.{◌≡◌, ◌+◌, ◌≤◌, ℕ, suc, List, [], ◌∷◌, Option, map, length, refl, ap, subst, arith}
use Rattle.std.proofs.lemmas.List.{length-map}
use Rattle.ec_disk.specs.Disk.{View, Counts}
use Rattle.ec_history.specs.declared.shown.LimitName.TheVariants as limit
use Rattle.ec_history.specs.declared.shown.Shown.TheVariants.{Limit}
use Rattle.ec_protocol.specs.Drill.{Read}
use Rattle.ec_script.specs.Lines.{lines_of}
use Rattle.ec_drill.specs.Limits.{most_bytes, most_lines}
use Rattle.ec_drill.specs.Script.{AreRead}
use Rattle.ec_drill.specs.Lines.{read_of}
use Rattle.ec_drill.specs.Drill.{Outside, IsDiskUntouched, IsGiven, Drilled}
use Rattle.ec_drill.specs.Seen.{Stream}
use Rattle.ec_drill.specs.Starts.{Withholds, RefusedWith}
use Rattle.ec_drill.specs.declared.script.ScriptLine.{ScriptLine}
use Rattle.ec_drill.specs.declared.start.Withheld.{Withheld}
use Rattle.ec_drill.specs.declared.start.Withheld.TheVariants as why
use Rattle.ec_drill.specs.declared.status.Status.{Status}
use Rattle.ec_drill.specs.declared.status.Status.TheVariants as status
use Rattle.ec_drill.proofs.Ends.{over_limit}

pub as_many : (bs : List (List ℕ)) (rs : List Read) → AreRead bs rs → length rs ≡ length bs
as_many [] [] are = refl
as_many [] (r ∷ rs) are = absurd are
as_many (b ∷ bs) [] are = absurd are
as_many (b ∷ bs) (r ∷ rs) are = ap suc (as_many bs rs are.1)

pub few_read : (source : Stream) (ls : List ScriptLine) → IsGiven source (map read_of ls) → length ls ≤ most_lines
few_read source ls g = omega (arith, as_many (lines_of g.script) (map read_of ls) g.read, length-map ls read_of, g.few_lines)

-- a source that was read, and a sink that was written to; the disk isn't touched
abbrev pub idle : Option (List ℕ) → Option (List ℕ) → ℕ → ℕ → Option (List ℕ) → Option (List ℕ) → ℕ → ℕ → Type 0 → View → Counts → Outside
idle left left_after reads reads_after held now writes later tells disk counts =
    record {
      source = record { bytes = left; bytes_after = left_after; faults = reads; faults_after = reads_after };
      sink = record { bytes = held; bytes_after = now; faults = writes; faults_after = later };
      store = record { tells = tells; disk = disk; disk_after = disk; counts = counts; counts_after = counts };
    }

module _ (most : ℕ) (result : Status) (left left_after : Option (List ℕ)) (reads reads_after : ℕ) (held now : Option (List ℕ)) (writes later : ℕ) (tells : Type 0) (disk : View) (counts : Counts) where
  -- the drill of a source whose script isn't taken
  abbrev given : Outside
  given = idle left left_after reads reads_after held now writes later tells disk counts

  untouched : IsDiskUntouched given
  untouched = record { gives = refl; crash = λ image left. left; counts = refl }

  pub over_bytes : (f : Withheld) → f ≡ why.Bytes → Withholds left left_after reads reads_after f → RefusedWith (Limit limit.Bytes (most_bytes + 1)) status.Limit result held now writes later → Drilled most result given
  over_bytes f is withheld told =
      let over = subst (Withholds left left_after reads reads_after) is withheld in
      over_limit most limit.Bytes (most_bytes + 1) result given (refl, over.0, over.1, over.2) untouched told

  pub over_lines : (f : Withheld) (n : ℕ) → f ≡ why.Lines n → Withholds left left_after reads reads_after f → RefusedWith (Limit limit.Lines n) status.Limit result held now writes later → Drilled most result given
  over_lines f n is withheld told =
      let over = subst (Withholds left left_after reads reads_after) is withheld in
      over_limit most limit.Lines n result given (over.0, record { given = over.1; at_end = over.2; few_bytes = over.3 }, over.4, over.5) untouched told
