-- The lines of a transcript that are counted, and what is told of them.
use Rattle.std.proofs.Common.{◌≡◌, ◌==◌, ℕ, true, List, [], ◌∷◌, ◌++◌, length, refl, sym, ap, subst, ◌∙◌, append_assoc, append-nil, arith, inl, inr, Option, Some}
use Rattle.std.specs.Prelude.{Result, Ok, Err, IfOk, MatchResult}
use Rattle.ec_script.specs.Lines.{lines_of}
use Rattle.ec_script.specs.OfGenerator.Generator.{script_of}
use Rattle.ec_drill.specs.Seen.{Stream}
use Rattle.ec_drill.specs.Drill.{Outside, Drilled}
use Rattle.ec_drill.specs.Limits.{most_objects}
use Rattle.ec_drill.specs.declared.status.Status as drilled
use Rattle.ec_echo.specs.Made.{made_lines}
use Rattle.ec_drill.proofs.OfPromise.Completes.{drills-complete}
use Rattle.ec_drill.proofs.OfPromise.Lawful.{drills-lawful}
use Rattle.ec_drill.proofs.OfPromise.Rooms.{drills-told}
use Rattle.ec_drill.proofs.OfPromise.Spent.{drills-spent}
use Rattle.ec_echo.proofs.Plain.{made-plain}
use Rattle.ec_echo.specs.Soak.{AreSorts, IsSort, Told, TellsCounts, summary_text, last_text}
use Rattle.ec_echo.specs.SoakDrills.{Soaked, within}
use Rattle.ec_echo.specs.Written.{TellsText, WroteWith, WroteNothing}
use Rattle.ec_echo.specs.declared.soaking.Sort.{Sort}
use Rattle.ec_echo.specs.declared.status.Status.{Status}
use Rattle.ec_echo.specs.declared.status.Status.TheVariants as status

sort-push : (bs : List (List ℕ)) (ss : List Sort) (b : List ℕ) (s : Sort) → AreSorts bs ss → IsSort b s → AreSorts (bs ++ b ∷ []) (ss ++ s ∷ [])
sort-push [] [] b s h k = (k, tt)
sort-push [] (t ∷ ss) b s h k = absurd h
sort-push (c ∷ bs) [] b s h k = absurd h
sort-push (c ∷ bs) (t ∷ ss) b s h k = (h.0, sort-push bs ss b s h.1 k)

-- one line more
pub line_sorted : (text : List ℕ) (done : List (List ℕ)) (ahead next b : List ℕ) (ss ts : List Sort) (s : Sort) → lines_of text ≡ done ++ lines_of ahead → AreSorts done ss
    → lines_of ahead ≡ b ∷ lines_of next → IsSort b s → ts ≡ ss ++ s ∷ [] → (done : List (List ℕ)) × (lines_of text ≡ done ++ lines_of next) × AreSorts done ts
line_sorted text done ahead next b ss ts s e are f is shown = (
  done ++ b ∷ [],
  e ∙ ap (λ l. done ++ l) f ∙ sym (append_assoc done (b ∷ []) (lines_of next)),
  subst (AreSorts (done ++ b ∷ [])) (sym shown) (sort-push done ss b s are is),
)

pub no_bytes : (bytes : List ℕ) → (length bytes == 0) ≡ true → bytes ≡ []
no_bytes [] is = refl
no_bytes (b ∷ bytes) is = absurd (grind arith)

pub all_sorted : (text ahead : List ℕ) (done : List (List ℕ)) (ss : List Sort) → lines_of text ≡ done ++ lines_of ahead → ahead ≡ [] → AreSorts done ss → AreSorts (lines_of text) ss
all_sorted text ahead done ss e none h = subst (λ (bs : List (List ℕ)). AreSorts bs ss) (sym (e ∙ ap (λ b. done ++ lines_of b) none ∙ append-nil done)) h

pub counts_told : {X E : Type 0} (made : Result X E) (items : X → List ℕ) (number : ℕ) (transcript : List ℕ) (result : Status) (held now : Option (List ℕ)) (before later : ℕ)
    → IfOk made (λ t. (ss : List Sort) × AreSorts (lines_of transcript) ss × (items t ≡ summary_text number ss))
    → MatchResult made (λ t. WroteWith (items t) status.Done result held now before later) (λ e. WroteNothing result held now) → TellsCounts number transcript result held now before later
counts_told (Ok t) items number transcript result held now before later e w = inl (e.0, e.1, subst (λ xs. WroteWith xs status.Done result held now before later) e.2 w)
counts_told (Err x) items number transcript result held now before later e w = inr w

pub last_told : {X E : Type 0} (made : Result X E) (items : X → List ℕ) (transcript : List ℕ) (st result : Status) (held now : Option (List ℕ)) (before later : ℕ)
    → IfOk made (λ t. items t ≡ last_text transcript)
    → MatchResult made (λ t. WroteWith (items t) st result held now before later) (λ e. WroteNothing result held now) → TellsText (last_text transcript) st result held now before later
last_told (Ok t) items transcript st result held now before later e w = inl (subst (λ xs. WroteWith xs st result held now before later) e w)
last_told (Err x) items transcript st result held now before later e w = inr w

-- whatever source there is beside it
pub soaked_over : (number : ℕ) (result : Status) (w : Outside) (source : Stream) → Soaked number result w → Soaked number result (record w { source = source })
soaked_over number result w source (inl s) = inl (record { left_after = s.left_after; transcript = s.transcript; end = s.end; drilled_so = s.drilled_so; lawful = s.lawful; complete = λ new. s.complete (record { tells = new.tells; empty = new.empty }); room = s.room; spent = s.spent; told = s.told })
soaked_over number result w source (inr s) = inr (record { result_is = s.result_is; held = s.held; disk = record { gives = s.disk.gives; crash = s.disk.crash; counts = s.disk.counts } })

-- a drill from memory to memory, by what the source and the sink have before it
pub soaked_by : (number : ℕ) (end : drilled.Status) (result : Status) (w : Outside) (script held : List ℕ) (left_after : Option (List ℕ)) (transcript : List ℕ) → script ≡ script_of number made_lines → held ≡ []
    → Drilled most_objects end (record w { source = record { bytes = Some script; bytes_after = left_after; faults = 0; faults_after = 0 }; sink = record { bytes = Some held; bytes_after = Some transcript; faults = 0; faults_after = 0 } })
    → Told number end transcript result w.sink.bytes w.sink.bytes_after w.sink.faults w.sink.faults_after → Soaked number result w
soaked_by number end result w script held left_after transcript made empty did told =
    let one = subst (λ (s : List ℕ). Drilled most_objects end (record w { source = record { bytes = Some s; bytes_after = left_after; faults = 0; faults_after = 0 }; sink = record { bytes = Some held; bytes_after = Some transcript; faults = 0; faults_after = 0 } })) made did in
    let two = subst (λ (h : List ℕ). Drilled most_objects end (record w { source = record { bytes = Some (script_of number made_lines); bytes_after = left_after; faults = 0; faults_after = 0 }; sink = record { bytes = Some h; bytes_after = Some transcript; faults = 0; faults_after = 0 } })) empty one in
    let lawful = drills-lawful most_objects end (within number left_after transcript w) two in
    inl (record {
      left_after = left_after;
      transcript = transcript;
      end = end;
      drilled_so = two;
      lawful = lawful;
      complete = λ new. (drills-complete most_objects end (within number left_after transcript w) two lawful (record { tells = new.tells; empty = new.empty }) (made-plain number));
      room = drills-told most_objects end (within number left_after transcript w) two;
      spent = drills-spent most_objects end (within number left_after transcript w) two;
      told = told;
    })
