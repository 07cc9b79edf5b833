-- All deliveries of a phase.
use Rattle.std.proofs.Common.{◌≡◌, refl, sym, ap, ◌∙◌, subst, arith, ℕ, Bool, true, false, [], ◌∷◌, ◌++◌, map}
use Rattle.ec_volume.specs.Volume.{Images, images}
use Rattle.ec_wire.specs.declared.msg.Msg.{Msg}
use Rattle.ec_wire.specs.declared.msg.Msg.TheVariants as msg
use Rattle.ec_quiet.specs.Facts.{session_clerk}
use Rattle.ec_quiet.specs.Phases.{Phase, Greets, Opens, Claims, Wants, Recalls, Flushes, Keeps, Grants, Asks, Gives, Refuses, Saves, Saved, Ends, InPhase, back_of, first_want, is_back_message, main, messages, recall_of}
use Rattle.ec_quiet.specs.Scenes.{Mail, Scene, delivered, is_for_server}
use Rattle.ec_quiet.specs.Works.{Work}
use Rattle.ec_quiet.proofs.Beside.{main-more}
use Rattle.ec_quiet.specs.OfDeliveries.Deliveries.{MayTake}
use Rattle.ec_quiet.proofs.OfDeliveries.Recalling as recalling
use Rattle.ec_quiet.specs.OfDeliveries.Leading.{CanTake}
use Rattle.ec_quiet.specs.OfDeliveries.PhasesBehind.{IsBehind, MaySee}
use Rattle.ec_quiet.proofs.OfDeliveries.ForWriteBehind.IdsCome.{gives}
use Rattle.ec_quiet.proofs.OfDeliveries.ForWriteBehind.Granted.{grants}
use Rattle.ec_quiet.proofs.OfDeliveries.ForWriteBehind.Kept.{keeps}
use Rattle.ec_quiet.proofs.OfDeliveries.ForWriteBehind.Moved.{to-server}
use Rattle.ec_quiet.proofs.OfDeliveries.ForWriteBehind.Opened.{opens}
use Rattle.ec_quiet.proofs.OfDeliveries.ForWriteBehind.Recalled.{recalls}
use Rattle.ec_quiet.proofs.OfDeliveries.ForWriteBehind.Refused.{refuses}
use Rattle.ec_quiet.proofs.OfDeliveries.ForWriteBehind.Saved.{saves}

-- what goes back is for the server
not-back : (m : Msg) → is_for_server m ≡ false → is_back_message m ≡ false
not-back (msg.Back s e x n h) f = absurd (grind (arith, f))
not-back (msg.Hello c age) f = refl
not-back (msg.Want s e x h n) f = refl
not-back (msg.Flush s e b ops) f = refl
not-back (msg.Room s e got ask) f = refl
not-back (msg.Claim s e l) f = refl
not-back (msg.Bye s e) f = refl
not-back (msg.Opened age s e) f = refl
not-back (msg.Grant s e x n h i) f = refl
not-back (msg.Recall s e x n h) f = refl
not-back (msg.Kept s e b) f = refl
not-back (msg.Ids s e got n x) f = refl
not-back (msg.NoRoom s e ask live reserved) f = refl
not-back (msg.Ended s low mask) f = refl
not-back (msg.Restarted s e) f = refl
not-back (msg.OldBoot asked greatest) f = refl

module _ (v : Images) (j : Work) (sc : Scene) (m : ℕ × Msg) (rest : Mail) (head : sc.mail ≡ m ∷ rest) (fine : IsBehind v j sc) where
  abbrev e : ℕ
  e = sc.server.durable.epoch

  module _ (side : is_for_server m.1 ≡ false) where
    same-head : (n : ℕ × Msg) (ms : Mail) → m ∷ main j rest ≡ n ∷ ms → m ≡ n
    same-head n ms f = cc

    no-head : m ∷ main j rest ≡ [] → ⊥
    no-head f = grind (arith, f)

    starts : (p : Phase) → InPhase j sc p → m ∷ main j rest ≡ messages j sc p
    starts p q = sym (ap (main j) head ∙ main-more j m.0 m.1 (not-back m.1 side) rest) ∙ q.main_is

    -- the phase's first message is for the server
    wrong : (p : Phase) (q : InPhase j sc p) (n : ℕ × Msg) (ms : Mail) → messages j sc p ≡ n ∷ ms → is_for_server n.1 ≡ true → IsBehind v j (delivered m.0 m.1 rest sc)
    wrong p q n ms f t = let bad : false ≡ true = sym side ∙ ap (λ (z : ℕ × Msg). is_for_server z.1) (same-head n ms (starts p q ∙ f)) ∙ t in absurd (grind (arith, bad))

    by-law : (p : Phase) (q : InPhase j sc p) (n : ℕ × Msg) (ms : Mail) → messages j sc p ≡ n ∷ ms → (sc.mail ≡ n ∷ rest → IsBehind v j (delivered n.0 n.1 rest sc)) → IsBehind v j (delivered m.0 m.1 rest sc)
    by-law p q n ms f law = let same : m ≡ n = same-head n ms (starts p q ∙ f) in subst (λ (z : ℕ × Msg). IsBehind v j (delivered z.0 z.1 rest sc)) (sym same) (law (head ∙ ap (λ z. z ∷ rest) same))

    taken : (p : Phase) → InPhase j sc p → MayTake j sc p → MaySee v j sc p → IsBehind v j (delivered m.0 m.1 rest sc)
    taken (Greets age) q may see = wrong (Greets age) q (j.clerk, msg.Hello j.clerk age) [] refl refl
    taken (Opens age) q may see = by-law (Opens age) q (j.clerk, msg.Opened age j.session e) [] refl (λ i. opens v j sc fine age q rest)
    taken (Claims o) q may see = wrong (Claims o) q (j.clerk, msg.Claim j.session e []) (first_want j e o) refl refl
    taken (Wants x h n) q may see = wrong (Wants x h n) q (j.clerk, msg.Want j.session e x h n) [] refl refl
    taken (Recalls x h [] []) q may see = absurd (no-head (starts (Recalls x h [] []) q))
    taken (Recalls x h [] (b ∷ bs)) q may see = wrong (Recalls x h [] (b ∷ bs)) q (back_of sc x h b) (map (back_of sc x h) bs) refl refl
    taken (Recalls x h (r ∷ rs) bs) q may see = by-law (Recalls x h (r ∷ rs) bs) q (recall_of sc x h r) (map (recall_of sc x h) rs ++ map (back_of sc x h) bs) refl
        (λ i. let c = recalling.running j sc x h r rs bs rest q i in recalls v j sc fine x h r rs bs q c.0 c.1 rest)
    taken (Flushes x h r b ops more) q may see = wrong (Flushes x h r b ops more) q (session_clerk sc.server r.0, msg.Flush r.0 e b ops) [] refl refl
    taken (Keeps x h r b more) q may see = by-law (Keeps x h r b more) q (session_clerk sc.server r.0, msg.Kept r.0 e b) [] refl (λ i. keeps v j sc fine x h r b more q rest)
    taken (Grants x h n) q may see = by-law (Grants x h n) q (j.clerk, msg.Grant j.session e x n h (images sc.server.durable.volume x)) [] refl
        (λ i. grants v j sc fine x h n q (may.1 q.facts.3.clerk q.facts.3.working.there) (see q.facts.3.clerk q.facts.3.working.there) rest)
    taken (Asks again got ask) q may see = wrong (Asks again got ask) q (j.clerk, msg.Room j.session e got ask) [] refl refl
    taken (Gives got n first) q may see = by-law (Gives got n first) q (j.clerk, msg.Ids j.session e got n first) [] refl (λ i. gives v j sc fine got n first q may.1 (may.2 q.facts.3.clerk q.facts.3.working.there) rest)
    taken (Refuses again ask live reserved) q may see = by-law (Refuses again ask live reserved) q (j.clerk, msg.NoRoom j.session e ask live reserved) [] refl
        (λ i. refuses v j sc fine again ask live reserved q (may q.facts.1.clerk q.facts.1.working.there) rest)
    taken (Saves b ops more) q may see = wrong (Saves b ops more) q (j.clerk, msg.Flush j.session e b ops) [] refl refl
    taken (Saved b more) q may see = by-law (Saved b more) q (j.clerk, msg.Kept j.session e b) [] refl (λ i. saves v j sc fine b more q (may q.facts.1.clerk q.facts.1.working.there) (see q.facts.1.clerk q.facts.1.working.there) rest)
    taken Ends q may see = absurd (no-head (starts Ends q))

  pub stays-behind : (p : Phase) → InPhase j sc p → CanTake j sc p m → MaySee v j sc p → IsBehind v j (delivered m.0 m.1 rest sc)
  stays-behind p q can see = go (is_for_server m.1) refl
    where
      go : (z : Bool) → is_for_server m.1 ≡ z → IsBehind v j (delivered m.0 m.1 rest sc)
      go true side = to-server v j sc fine m rest side
      go false side = taken side p q (can.may side) see
