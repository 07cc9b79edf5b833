-- What a disk in memory keeps, after one step more.
use Rattle.std.proofs.Common.{◌≡◌, ℕ, ◌+◌, ◌<◌, List, [], ◌∷◌, ◌++◌, length, refl, sym, ◌∙◌, ap, subst, arith}
use Rattle.ec_disk.specs.Disk.{byte}
use Rattle.ec_disk.specs.Effects.{written}
use Rattle.ec_disk.specs.Past.{Shot, clean, apply, shot_of}
use Rattle.ec_disk.specs.PastLaws.{shot-push}
use Rattle.ec_disk.specs.Undo.{Restores}
use Rattle.ec_disk.specs.declared.undo.Undo.{Undo}
use Rattle.ec_disk.specs.declared.memory.Step.{Step}
use Rattle.ec_disk.specs.declared.memory.Step.TheVariants as step
use Rattle.ec_disk.proofs.UndoLaws.{restores-write}

-- what the ghost fields say
pub record Kept (undos : List Undo) (len : ℕ) (now : List ℕ) (log : List Step) : Type 0 where
  pub now_is : now ≡ (shot_of log).now
  pub restores : Restores undos len now (shot_of log).synced

pub kept-write : (undos later : List Undo) (len : ℕ) (now new old piece : List ℕ) (log longer : List Step) (at : ℕ) (undo : Undo) → Kept undos len now log → undo.at ≡ at → undo.old ≡ old → length old ≡ length piece
    → ((i : ℕ) → i < length piece → byte old i ≡ byte now (at + i)) → later ≡ undos ++ undo ∷ [] → new ≡ written at piece now → longer ≡ log ++ step.Write at piece ∷ [] → Kept later len new longer
kept-write undos later len now new old piece log longer at undo was at_is old_is size bytes later_is new_is longer_is = record {
  now_is = new_is ∙ ap (λ (l : List ℕ). written at piece l) was.now_is ∙ ap (λ s. Shot.now s) (sym shot);
  restores =
      subst (λ l. Restores later len new l) (ap (λ s. Shot.synced s) (sym shot))
      (subst (λ us. Restores us len new (shot_of log).synced) (sym later_is)
      (subst (λ l. Restores (undos ++ undo ∷ []) len l (shot_of log).synced) (ap (λ (k : ℕ). written k piece now) at_is ∙ sym new_is)
      (restores-write undos len now (shot_of log).synced undo piece was.restores (ap length old_is ∙ size) (λ i lt. ap (λ (l : List ℕ). byte l i) old_is ∙ bytes i lt ∙ ap (λ (k : ℕ). byte now (k + i)) (sym at_is)))));
}
  where
    shot : shot_of longer ≡ apply (shot_of log) (step.Write at piece)
    shot = ap shot_of longer_is ∙ shot-push log (step.Write at piece)

-- a sync or a power cut
pub kept-clean : (undos : List Undo) (len : ℕ) (new : List ℕ) (log longer : List Step) (x : Step) → longer ≡ log ++ x ∷ [] → apply (shot_of log) x ≡ clean new → undos ≡ [] → len ≡ length new → Kept undos len new longer
kept-clean undos len new log longer x longer_is applied none size = record {
  now_is = ap (λ s. Shot.now s) (sym shot);
  restores =
      subst (λ us. Restores us len new (shot_of longer).synced) (sym none) record {
        len_is = size ∙ ap length same;
        no_shorter = omega (arith, ap length same);
        inside = refl;
        bytes = λ i. ap (λ (l : List ℕ). byte l i) same;
      };
}
  where
    shot : shot_of longer ≡ clean new
    shot = ap shot_of longer_is ∙ shot-push log x ∙ applied

    same : new ≡ (shot_of longer).synced
    same = ap (λ s. Shot.synced s) (sym shot)
