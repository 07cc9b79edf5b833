-- What is told of a transcript, as it was written.
use Rattle.std.proofs.Common.{◌≡◌, ℕ, List, Option, inl, inr, sym, subst}
use Rattle.std.specs.Prelude.{Result, Ok, Err, IfOk, MatchResult}
use Rattle.std.specs.Io.KnownBytes.{Appends}
use Rattle.ec_script.specs.OfGenerator.Generator.{script_of}
use Rattle.ec_echo.specs.Check.{Finds, Judged}
use Rattle.ec_echo.specs.Echo.{Made}
use Rattle.ec_echo.specs.Made.{made_lines}
use Rattle.ec_drill.specs.Seen.{Stream}
use Rattle.ec_echo.specs.Written.{WroteWith, WroteNothing}
use Rattle.ec_echo.specs.declared.status.Status.{Status}
use Rattle.ec_echo.specs.declared.status.Status.TheVariants as status

whole : (most : ℕ) (source sink : Stream) (st : Status) (text : List ℕ) → Finds most source st text → Appends sink.bytes sink.bytes_after text → Judged most st source sink
whole most source sink status.Done text f a = (text, f, a)
whole most source sink status.Usage text f a = absurd f
whole most source sink status.BadLine text f a = (text, f, a)
whole most source sink status.SourceFault text f a = absurd f
whole most source sink status.SinkFault text f a = absurd f
whole most source sink status.DiskFault text f a = absurd f
whole most source sink status.BadDisk text f a = absurd f
whole most source sink status.NetFault text f a = absurd f
whole most source sink status.NoMemory text f a = absurd f
whole most source sink status.StartFault text f a = absurd f
whole most source sink status.Limit text f a = (text, f, a)
whole most source sink status.Illegal text f a = (text, f, a)
whole most source sink status.OldBoot text f a = absurd f
whole most source sink status.PeerFault text f a = absurd f
whole most source sink status.Spent text f a = absurd f

-- the line that tells what the transcript is was written, or a part of it
pub told : (most : ℕ) (source sink : Stream) (st result : Status) (text : List ℕ) → Finds most source st text → WroteWith text st result sink.bytes sink.bytes_after sink.faults sink.faults_after → Judged most result source sink
told most source sink st result text f (inl w) = subst (λ (r : Status). Judged most r source sink) (sym w.0) (whole most source sink st text f w.1)
told most source sink st result text f (inr (inl w)) = subst (λ (r : Status). Judged most r source sink) (sym w.0) (w.1, (st, text, f, w.2))
told most source sink st result text f (inr (inr w)) = subst (λ (r : Status). Judged most r source sink) (sym w.0) (inl (st, text, f, w.1))

silent : (most : ℕ) (source sink : Stream) (result : Status) → WroteNothing result sink.bytes sink.bytes_after → Judged most result source sink
silent most source sink result w = subst (λ (r : Status). Judged most r source sink) (sym w.0) (inr w.1)

-- the same where there may be no memory for the line
pub told-made : {X E : Type 0} (text : Result X E) (items : X → List ℕ) (most : ℕ) (source sink : Stream) (st result : Status) (line : List ℕ) → Finds most source st line → IfOk text (λ t. items t ≡ line)
    → MatchResult text (λ t. WroteWith (items t) st result sink.bytes sink.bytes_after sink.faults sink.faults_after) (λ e. WroteNothing result sink.bytes sink.bytes_after) → Judged most result source sink
told-made (Ok t) items most source sink st result line f e w = told most source sink st result line f (subst (λ xs. WroteWith xs st result sink.bytes sink.bytes_after sink.faults sink.faults_after) e w)
told-made (Err x) items most source sink st result line f e w = silent most source sink result w

-- the script was written, or a part of it
made-part : (n : ℕ) (result : Status) (held now : Option (List ℕ)) (before later : ℕ) → WroteWith (script_of n made_lines) status.Done result held now before later → Made n result held now before later
made-part n result held now before later (inl w) = subst (λ (r : Status). Made n r held now before later) (sym w.0) w.1
made-part n result held now before later (inr (inl w)) = subst (λ (r : Status). Made n r held now before later) (sym w.0) (w.1, w.2)
made-part n result held now before later (inr (inr w)) = subst (λ (r : Status). Made n r held now before later) (sym w.0) (inl w.1)

pub made : {X E : Type 0} (text : Result X E) (items : X → List ℕ) (n : ℕ) (result : Status) (held now : Option (List ℕ)) (before later : ℕ) → IfOk text (λ t. items t ≡ script_of n made_lines)
    → MatchResult text (λ t. WroteWith (items t) status.Done result held now before later) (λ e. WroteNothing result held now) → Made n result held now before later
made (Ok t) items n result held now before later e w = made-part n result held now before later (subst (λ xs. WroteWith xs status.Done result held now before later) e w)
made (Err x) items n result held now before later e w = subst (λ (r : Status). Made n r held now before later) (sym w.0) (inr w.1)
