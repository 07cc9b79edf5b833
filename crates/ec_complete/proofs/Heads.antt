-- In which phases a clerk asks for ids, and is given them.
use Rattle.std.proofs.Common.{◌≡◌, refl, sym, ap, ◌∙◌, ℕ, Bool, true, false, not, ◌&&◌, cond, List, [], ◌∷◌, ◌++◌, map}
use Rattle.std.specs.List.{filter}
use Rattle.std.specs.Prelude.{None, Some, ⊤}
use Rattle.std.proofs.lemmas.Bool.{true≢false}
use Rattle.ec_wire.specs.declared.msg.Msg.{Msg}
use Rattle.ec_wire.specs.declared.msg.Msg.TheVariants as msg
use Rattle.ec_quiet.specs.Phases.{InPhase, Phase, Greets, Opens, Claims, Wants, Recalls, Flushes, Keeps, Grants, Asks, Gives, Refuses, Saves, Saved, Ends, is_back, is_back_message, main, messages_in}
use Rattle.ec_quiet.specs.Scenes.{Mail, Scene}
use Rattle.ec_quiet.specs.Works.{Work}
use Rattle.ec_quiet.proofs.OfDeliveries.Spending.{is_room}

abbrev pub is_ids : Msg → Bool
is_ids (msg.Ids s e got n first) = true
is_ids _ = false

abbrev pub AreAsked : Phase → Type 0
AreAsked (Asks again got ask) = ⊤
AreAsked _ = ⊥

abbrev pub AreGiven : Phase → Type 0
AreGiven (Gives got n first) = ⊤
AreGiven _ = ⊥

abbrev first-is : (Msg → Bool) → Mail → Bool
first-is p [] = false
first-is p (m ∷ ms) = p m.1

abbrev pub first-clerk : ℕ → Mail → ℕ
first-clerk c [] = c
first-clerk c (m ∷ ms) = m.0

both-lists : {A : Type 0} (p : Msg → Bool) (f g : A → ℕ × Msg) (xs ys : List A) → ((x : A) → p (f x).1 ≡ false) → ((x : A) → p (g x).1 ≡ false) → first-is p (map f xs ++ map g ys) ≡ false
both-lists p f g [] [] a b = refl
both-lists p f g [] (y ∷ ys) a b = b y
both-lists p f g (x ∷ xs) ys a b = a x

module _ (j : Work) (sc : Scene) (e : ℕ) where
  asked : (p : Phase) → first-is is_room (messages_in j sc e p) ≡ true → AreAsked p
  asked (Greets age) t = absurd (true≢false (sym t))
  asked (Opens age) t = absurd (true≢false (sym t))
  asked (Claims o) t = absurd (true≢false (sym t))
  asked (Wants x h n) t = absurd (true≢false (sym t))
  asked (Recalls x h rs bs) t = absurd (true≢false (sym t ∙ both-lists is_room (Rattle.ec_quiet.specs.Phases.recall_of sc x h) (Rattle.ec_quiet.specs.Phases.back_of sc x h) rs bs (λ r. refl) (λ r. refl)))
  asked (Flushes x h r b ops rest) t = absurd (true≢false (sym t))
  asked (Keeps x h r b rest) t = absurd (true≢false (sym t))
  asked (Grants x h n) t = absurd (true≢false (sym t))
  asked (Asks again got ask) t = tt
  asked (Gives got n first) t = absurd (true≢false (sym t))
  asked (Refuses again ask live reserved) t = absurd (true≢false (sym t))
  asked (Saves b ops rest) t = absurd (true≢false (sym t))
  asked (Saved b rest) t = absurd (true≢false (sym t))
  asked Ends t = absurd (true≢false (sym t))

  given : (p : Phase) → first-is is_ids (messages_in j sc e p) ≡ true → AreGiven p
  given (Greets age) t = absurd (true≢false (sym t))
  given (Opens age) t = absurd (true≢false (sym t))
  given (Claims o) t = absurd (true≢false (sym t))
  given (Wants x h n) t = absurd (true≢false (sym t))
  given (Recalls x h rs bs) t = absurd (true≢false (sym t ∙ both-lists is_ids (Rattle.ec_quiet.specs.Phases.recall_of sc x h) (Rattle.ec_quiet.specs.Phases.back_of sc x h) rs bs (λ r. refl) (λ r. refl)))
  given (Flushes x h r b ops rest) t = absurd (true≢false (sym t))
  given (Keeps x h r b rest) t = absurd (true≢false (sym t))
  given (Grants x h n) t = absurd (true≢false (sym t))
  given (Asks again got ask) t = absurd (true≢false (sym t))
  given (Gives got n first) t = tt
  given (Refuses again ask live reserved) t = absurd (true≢false (sym t))
  given (Saves b ops rest) t = absurd (true≢false (sym t))
  given (Saved b rest) t = absurd (true≢false (sym t))
  given Ends t = absurd (true≢false (sym t))

-- The message comes first.
module _ (j : Work) (sc : Scene) (p : Phase) (ip : InPhase j sc p) (m : ℕ × Msg) (rest : Mail) (head : sc.mail ≡ m ∷ rest) where
  in-main : is_back_message m.1 ≡ false → main j (m ∷ rest) ≡ m ∷ main j rest
  in-main e = ap (λ b. cond (not b) (m ∷ main j rest) (main j rest)) (no-back (Rattle.std.specs.Prelude.◌==◌ m.0 j.clerk) (is_back_message m.1) e)
    where
      no-back : (a b : Bool) → b ≡ false → (a && b) ≡ false
      no-back true b e = e
      no-back false b e = refl

  leads : is_back_message m.1 ≡ false → messages_in j sc sc.server.durable.epoch p ≡ m ∷ main j rest
  leads e = sym ip.main_is ∙ ap (main j) head ∙ in-main e

  room-no-back : (t : Msg) → is_room t ≡ true → is_back_message t ≡ false
  room-no-back (msg.Room s e got ask) q = refl
  room-no-back (msg.Back s e x n h) q = absurd (true≢false (sym q))
  room-no-back _ q = refl

  ids-no-back : (t : Msg) → is_ids t ≡ true → is_back_message t ≡ false
  ids-no-back (msg.Ids s e got n first) q = refl
  ids-no-back (msg.Back s e x n h) q = absurd (true≢false (sym q))
  ids-no-back _ q = refl

  pub room-asked : is_room m.1 ≡ true → AreAsked p
  room-asked q = asked j sc sc.server.durable.epoch p (ap (first-is is_room) (leads (room-no-back m.1 q)) ∙ q)

  pub ids-given : is_ids m.1 ≡ true → AreGiven p × (m.0 ≡ first-clerk 0 (messages_in j sc sc.server.durable.epoch p))
  ids-given q = (given j sc sc.server.durable.epoch p (ap (first-is is_ids) (leads (ids-no-back m.1 q)) ∙ q), sym (ap (first-clerk 0) (leads (ids-no-back m.1 q))))
