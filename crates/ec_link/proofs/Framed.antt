-- The body of a frame, and what several reads add.
use Rattle.std.proofs.Common.{◌≡◌, ℕ, List, [], ◌∷◌, ◌++◌, drop, length, sym, ap, ◌∙◌, subst, append_assoc, refl}
use Rattle.ec_streams.specs.OfFrame.Frames.{header, frame, Begins, BeginsLong, BeginsNone}
use Rattle.ec_streams.specs.OfFrame.FrameLaws.{length-header}
use Rattle.ec_link.specs.declared.link.Sent.{Sent}
use Rattle.ec_link.specs.declared.link.Sent.TheVariants as sent
use Rattle.ec_link.specs.declared.link.Got.{Got}
use Rattle.ec_link.specs.declared.link.Got.TheVariants as got
use Rattle.ec_link.specs.LinkAnswers.{carried, Reads}

drop_front : {A : Type 0} (n : ℕ) (xs ys : List A) → length xs ≡ n → drop n (xs ++ ys) ≡ ys
drop_front n [] ys e = ap (λ k. drop k ys) (sym e)
drop_front n (x ∷ xs) ys e = ap (λ k. drop k (x ∷ (xs ++ ys))) (sym e) ∙ drop_front (length xs) xs ys refl

pub body_of_frame : (answer : Sent) (body bytes : List ℕ) → bytes ≡ frame body → carried answer (drop 4 bytes) ≡ carried answer body
body_of_frame answer body bytes is = ap (carried answer) (ap (drop 4) is ∙ drop_front 4 (header (length body)) body (length-header (length body)))

-- a read behind another one
pub reads_on : (answer : Got) (old mid new more : List ℕ) → mid ≡ old ++ more → Reads mid new answer → Reads old new answer
reads_on (got.Body bytes) old mid new more is r = (more ++ r.0, subst (λ l. Begins l bytes.items new) (ap (λ l. l ++ r.0) is ∙ append_assoc old more r.0) r.1)
reads_on got.Nothing old mid new more is r = (more ++ r.0, r.1 ∙ (ap (λ l. l ++ r.0) is ∙ append_assoc old more r.0), r.2)
reads_on (got.Long n) old mid new more is r = (more ++ r.0, r.1 ∙ (ap (λ l. l ++ r.0) is ∙ append_assoc old more r.0), r.2)
reads_on got.Closed old mid new more is r = (more ++ r.0, r.1 ∙ (ap (λ l. l ++ r.0) is ∙ append_assoc old more r.0), r.2)
reads_on got.Failed old mid new more is r = (more ++ r.0, r.1 ∙ (ap (λ l. l ++ r.0) is ∙ append_assoc old more r.0))
reads_on got.NoMemory old mid new more is r = (more ++ r.0, r.1 ∙ (ap (λ l. l ++ r.0) is ∙ append_assoc old more r.0))
