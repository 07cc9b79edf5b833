-- Each message for a clerk leads on.
use Rattle.std.proofs.Common.{◌≡◌, refl, sym, ap, ◌∙◌, subst, arith, ℕ, Bool, true, false, [], ◌∷◌, ◌++◌, map}
use Rattle.ec_wire.specs.declared.msg.Msg.{Msg}
use Rattle.ec_wire.specs.declared.msg.Msg.TheVariants as msg
use Rattle.ec_quiet.specs.Phases.{Phase, Greets, Opens, Claims, Wants, Recalls, Flushes, Keeps, Grants, Asks, Gives, Refuses, Saves, Saved, Ends, InPhase, back_of, is_back, is_back_message, main, messages, recall_of}
use Rattle.ec_quiet.specs.Scenes.{Mail, Scene, delivered, is_for_server}
use Rattle.ec_quiet.specs.Works.{Task, Calls, Pushes, Work}
use Rattle.ec_quiet.specs.Goes.{GoesOn}
use Rattle.ec_quiet.proofs.Beside.{main-more}
use Rattle.ec_quiet.proofs.Granting.{grants-go-on}
use Rattle.ec_quiet.proofs.SessionOpens.{opened-comes}
use Rattle.ec_quiet.specs.OfDeliveries.Deliveries.{MaySave, MayTake}
use Rattle.ec_quiet.proofs.OfDeliveries.IdsTaken.{gives-go-on}
use Rattle.ec_quiet.proofs.OfDeliveries.Keeping.{keeps-go-on}
use Rattle.ec_quiet.proofs.OfDeliveries.Pushing.{pushed-goes-on}
use Rattle.ec_quiet.proofs.OfDeliveries.Recalling as recalling
use Rattle.ec_quiet.proofs.OfDeliveries.Refusing.{refuses-go-on}
use Rattle.ec_quiet.proofs.OfDeliveries.Saving.{saved-goes-on}

-- What goes back is for the server.
not-back : (m : Msg) → is_for_server m ≡ false → is_back_message m ≡ false
not-back (msg.Back s e x n h) f = absurd (grind (arith, f))
not-back (msg.Hello c age) f = refl
not-back (msg.Want s e x h n) f = refl
not-back (msg.Flush s e b ops) f = refl
not-back (msg.Room s e got ask) f = refl
not-back (msg.Claim s e l) f = refl
not-back (msg.Bye s e) f = refl
not-back (msg.Opened age s e) f = refl
not-back (msg.Grant s e x n h i) f = refl
not-back (msg.Recall s e x n h) f = refl
not-back (msg.Kept s e b) f = refl
not-back (msg.Ids s e got n x) f = refl
not-back (msg.NoRoom s e ask live reserved) f = refl
not-back (msg.Ended s low mask) f = refl
not-back (msg.Restarted s e) f = refl
not-back (msg.OldBoot asked greatest) f = refl

module _ (j : Work) (sc : Scene) (m : ℕ × Msg) (rest : Mail) (side : is_for_server m.1 ≡ false) (head : sc.mail ≡ m ∷ rest) where
  abbrev e : ℕ
  e = sc.server.durable.epoch

  -- it's the first one of the phase
  first-main : main j sc.mail ≡ m ∷ main j rest
  first-main = ap (main j) head ∙ main-more j m.0 m.1 (not-back m.1 side) rest

  same-head : (n : ℕ × Msg) (ms : Mail) → m ∷ main j rest ≡ n ∷ ms → m ≡ n
  same-head n ms f = cc

  no-head : m ∷ main j rest ≡ [] → ⊥
  no-head f = grind (arith, f)

  module _ (p : Phase) (q : InPhase j sc p) where
    starts : m ∷ main j rest ≡ messages j sc p
    starts = sym first-main ∙ q.main_is

    -- the phase's first message is for the server
    wrong : (n : ℕ × Msg) (ms : Mail) → messages j sc p ≡ n ∷ ms → is_for_server n.1 ≡ true → GoesOn j sc p (delivered m.0 m.1 rest sc)
    wrong n ms f t = let bad : false ≡ true = sym side ∙ ap (λ (z : ℕ × Msg). is_for_server z.1) (same-head n ms (starts ∙ f)) ∙ t in absurd (grind (arith, bad))

    by-law : (n : ℕ × Msg) (ms : Mail) → messages j sc p ≡ n ∷ ms → (sc.mail ≡ n ∷ rest → GoesOn j sc p (delivered n.0 n.1 rest sc)) → GoesOn j sc p (delivered m.0 m.1 rest sc)
    by-law n ms f law = let same : m ≡ n = same-head n ms (starts ∙ f) in subst (λ (z : ℕ × Msg). GoesOn j sc p (delivered z.0 z.1 rest sc)) (sym same) (law (head ∙ ap (λ z. z ∷ rest) same))

  saves : (b : ℕ) (more : Bool) (q : InPhase j sc (Saved b more)) → MaySave j.task j b q.facts.1.clerk → sc.mail ≡ (j.clerk, msg.Kept j.session e b) ∷ rest → GoesOn j sc (Saved b more) (delivered j.clerk (msg.Kept j.session e b) rest sc)
  saves b more q may h = go j.task refl may
    where
      go : (t : Task) → j.task ≡ t → MaySave t j b q.facts.1.clerk → GoesOn j sc (Saved b more) (delivered j.clerk (msg.Kept j.session e b) rest sc)
      go (Calls cl) is may = saved-goes-on j sc b more rest q h may
      go (Pushes n) is may = pushed-goes-on j sc b more rest q h n is may

  pub all-go-on : (p : Phase) → InPhase j sc p → MayTake j sc p → GoesOn j sc p (delivered m.0 m.1 rest sc)
  all-go-on (Greets age) q may = wrong (Greets age) q (j.clerk, msg.Hello j.clerk age) [] refl refl
  all-go-on (Opens age) q may = by-law (Opens age) q (j.clerk, msg.Opened age j.session e) [] refl (λ h. let o = opened-comes j sc age rest q h in (Claims o.0, o.1, omega (arith, o.2)))
  all-go-on (Claims o) q may = wrong (Claims o) q (j.clerk, msg.Claim j.session e []) (Rattle.ec_quiet.specs.Phases.first_want j e o) refl refl
  all-go-on (Wants x h n) q may = wrong (Wants x h n) q (j.clerk, msg.Want j.session e x h n) [] refl refl
  all-go-on (Recalls x h [] []) q may = absurd (no-head (starts (Recalls x h [] []) q))
  all-go-on (Recalls x h [] (b ∷ bs)) q may = wrong (Recalls x h [] (b ∷ bs)) q (back_of sc x h b) (map (back_of sc x h) bs) refl refl
  all-go-on (Recalls x h (r ∷ rs) bs) q may = by-law (Recalls x h (r ∷ rs) bs) q (recall_of sc x h r) (map (recall_of sc x h) rs ++ map (back_of sc x h) bs) refl
      (λ i. recalling.recalls-go-on j sc x h r rs bs rest q i (may (recalling.running j sc x h r rs bs rest q i).0 (recalling.running j sc x h r rs bs rest q i).1))
  all-go-on (Flushes x h r b ops more) q may = wrong (Flushes x h r b ops more) q (Rattle.ec_quiet.specs.Facts.session_clerk sc.server r.0, msg.Flush r.0 e b ops) [] refl refl
  all-go-on (Keeps x h r b more) q may = by-law (Keeps x h r b more) q (Rattle.ec_quiet.specs.Facts.session_clerk sc.server r.0, msg.Kept r.0 e b) [] refl (λ i. keeps-go-on j sc x h r b more rest q i (may q.facts.1.clerk q.facts.1.there))
  all-go-on (Grants x h n) q may = by-law (Grants x h n) q (j.clerk, msg.Grant j.session e x n h (Rattle.ec_volume.specs.Volume.images sc.server.durable.volume x)) [] refl (λ i. grants-go-on j sc x h n rest q i may.0 may.1)
  all-go-on (Asks again got ask) q may = wrong (Asks again got ask) q (j.clerk, msg.Room j.session e got ask) [] refl refl
  all-go-on (Gives got n first) q may = by-law (Gives got n first) q (j.clerk, msg.Ids j.session e got n first) [] refl (λ i. gives-go-on j sc got n first rest q i may.0 may.1 (may.2 q.facts.3.clerk q.facts.3.working.there))
  all-go-on (Refuses again ask live reserved) q may = by-law (Refuses again ask live reserved) q (j.clerk, msg.NoRoom j.session e ask live reserved) [] refl (λ i. refuses-go-on j sc again ask live reserved rest q i (may q.facts.1.clerk q.facts.1.working.there))
  all-go-on (Saves b ops more) q may = wrong (Saves b ops more) q (j.clerk, msg.Flush j.session e b ops) [] refl refl
  all-go-on (Saved b more) q may = by-law (Saved b more) q (j.clerk, msg.Kept j.session e b) [] refl (λ i. saves b more q (may q.facts.1.clerk q.facts.1.working.there) i)
  all-go-on Ends q may = absurd (no-head (starts Ends q))
