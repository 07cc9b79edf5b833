-- A clerk's step under way: it begins with all facts, and they stand behind each change in its session with the messages that it sends.
use Rattle.std.proofs.Common.{◌≡◌, refl, sym, ap, subst, ◌∙◌, ℕ, Bool, true, false, ◌==◌, ◌&&◌, map, List, [], ◌∷◌, ◌++◌, Option, Some, None, append-nil}
use Rattle.std.proofs.lemmas.Bool.{and_parts}
use Rattle.std.proofs.lemmas.List.{append_assoc}
use Rattle.ec_base.specs.Tables.{Table}
use Rattle.ec_base.specs.declared.ids.Age.{Age}
use Rattle.ec_plain.specs.declared.call.Call.{Call}
use Rattle.ec_history.specs.declared.shown.Shown.{Shown}
use Rattle.ec_history.specs.declared.shown.Shown.TheVariants as show
use Rattle.ec_wire.specs.declared.msg.Msg.{Msg}
use Rattle.ec_protocol.specs.Clerk.{Doing, doing}
use Rattle.ec_protocol.specs.declared.clerk.Clerk.{Clerk}
use Rattle.ec_protocol.specs.declared.clerk.Out.{Out}
use Rattle.ec_protocol.specs.declared.clerk.Out.TheVariants as out
use Rattle.ec_coherence.specs.System.{System, Ghost, with_start}
use Rattle.ec_coherence.specs.Tokens.{TokensAgree, view}
use Rattle.ec_coherence.specs.ChangeLaws.{IsInIt, LogsAndImages, with_clerk}
use Rattle.ec_coherence.specs.Steps.{call_of, calls_after, doing_in, less_call, out_lines, sends}
use Rattle.ec_coherence.proofs.ForClerk.Acting.{sends-more}
use Rattle.ec_coherence.proofs.ForBatches.ClerkIn.{start-same}
use Rattle.ec_coherence.specs.CommitLaws.{AllAgree}
use Rattle.ec_coherence.specs.StandLaws.{AreSent, ClerkStands, SessionGoesOn, sending}
use Rattle.ec_coherence.proofs.GoesOn.{changes-stand}
use Rattle.ec_base.proofs.Numbers.{equal}

-- One start stands by its clerk and boot.
module _ (c b : ℕ) (k : Clerk) (f : ℕ → ℕ → Option Clerk) where
  with-twice : (now : Clerk) → with_start c b now (with_start c b k f) ≡ with_start c b now f
  with-twice now = λ j x y. point ((x == c) && (y == b)) x y j
    where
      point : (z : Bool) (x y : ℕ) → elim z as (λ o. Option Clerk) [ true ↦ Some now | false ↦ elim z as (λ o. Option Clerk) [ true ↦ Some k | false ↦ f x y ] ] ≡ elim z as (λ o. Option Clerk) [ true ↦ Some now | false ↦ f x y ]
      point true x y = refl
      point false x y = refl

  with-same : f c b ≡ Some k → with_start c b k f ≡ f
  with-same p = λ j x y. point x y ((x == c) && (y == b)) refl j
    where
      point : (x y : ℕ) (z : Bool) → ((x == c) && (y == b)) ≡ z → elim z as (λ o. Option Clerk) [ true ↦ Some k | false ↦ f x y ] ≡ f x y
      point x y true e = let two = and_parts (x == c) (y == b) e in sym (ap (λ z. f z y) (equal x c two.0) ∙ ap (f c) (equal y b two.1) ∙ p)
      point x y false e = refl

-- What is sent takes no call away, and shows no line.

sends-each : (c : ℕ) (ms : List Msg) → sends c (map out.Send ms) ≡ map (λ m. (c, m)) ms
sends-each c [] = refl
sends-each c (m ∷ ms) = ap (λ z. (c, m) ∷ z) (sends-each c ms)

calls-each : (c : ℕ) (ms : List Msg) (calls : Table (Table (ℕ × Call))) → calls_after c (map out.Send ms) calls ≡ calls
calls-each c [] calls = refl
calls-each c (m ∷ ms) calls = calls-each c ms calls

lines-each : (c : ℕ) (ms : List Msg) (calls : Table (Table (ℕ × Call))) → out_lines c (map out.Send ms) calls ≡ []
lines-each c [] calls = refl
lines-each c (m ∷ ms) calls = lines-each c ms calls

calls-more : (c : ℕ) (os : List Out) (ms : List Msg) (calls : Table (Table (ℕ × Call))) → calls_after c (os ++ map out.Send ms) calls ≡ calls_after c os calls
calls-more c [] ms calls = calls-each c ms calls
calls-more c (out.Send m ∷ os) ms calls = calls-more c os ms calls
calls-more c (out.Told ns ∷ os) ms calls = calls-more c os ms calls
calls-more c (out.OldBoot a ∷ os) ms calls = calls-more c os ms calls
calls-more c (out.Answer n a op ∷ os) ms calls = calls-more c os ms (elim (call_of c n calls) as (λ z. Table (Table (ℕ × Call))) [ None ↦ calls | Some l ↦ less_call c n calls ])

lines-more : (c : ℕ) (os : List Out) (ms : List Msg) (calls : Table (Table (ℕ × Call))) → out_lines c (os ++ map out.Send ms) calls ≡ out_lines c os calls
lines-more c [] ms calls = lines-each c ms calls
lines-more c (out.Send m ∷ os) ms calls = lines-more c os ms calls
lines-more c (out.Told ns ∷ os) ms calls = ap (λ z. show.Told c ns ∷ z) (lines-more c os ms calls)
lines-more c (out.OldBoot a ∷ os) ms calls = lines-more c os ms calls
lines-more c (out.Answer n a op ∷ os) ms calls = go (call_of c n calls) (λ x. lines-more c os ms x)
  where
    go : (o : Option (ℕ × Call)) → ((x : Table (Table (ℕ × Call))) → out_lines c (os ++ map out.Send ms) x ≡ out_lines c os x) → elim o as (λ z. List Shown) [
      | None ↦ out_lines c (os ++ map out.Send ms) calls
      | Some l ↦ show.Answered l.0 c l.1 a op ∷ out_lines c (os ++ map out.Send ms) (less_call c n calls)
    ] ≡ elim o as (λ z. List Shown) [
      | None ↦ out_lines c os calls
      | Some l ↦ show.Answered l.0 c l.1 a op ∷ out_lines c os (less_call c n calls)
    ]
    go None r = r calls
    go (Some l) r = ap (λ z. show.Answered l.0 c l.1 a op ∷ z) (r (less_call c n calls))

-- A step begins.
module _ (g : System) (all : AllAgree g) (c b : ℕ) (k : Clerk) (runs : g.running c ≡ Some b) (there : g.clerks c b ≡ Some k) where
  begun-all : AllAgree (doing_in c b (doing k) g.ghost g)
  begun-all = subst (λ f. AllAgree (record g { clerks = f; pool = g.pool ++ [] })) (sym (with-same c b k g.clerks there)) (subst (λ p. AllAgree (record g { pool = p })) (sym (append-nil g.pool)) all)

  pub begins-stand : ClerkStands g c b (doing k) g.ghost
  begins-stand = (record { runs = runs; shown = sym (append-nil g.ghost.shown); invariant = begun-all.0 }, begun-all.1, begun-all.2, begun-all.3)

-- It goes on in its session.
module _ (g : System) (c b s : ℕ) (d : Doing) (γ : Ghost) (st : ClerkStands g c b d γ) (age : Age) (owns : γ.owner s ≡ Some (c, age)) (at : age.boot ≡ b) (session : d.clerk.session ≡ Some s) (now : Clerk) (on : SessionGoesOn d.clerk now) (ms : List Msg) where
  abbrev here : System
  here = doing_in c b d γ g

  abbrev said : List (ℕ × Msg)
  said = map (λ m. (c, m)) ms

  abbrev e : Doing
  e = sending now ms d

  pub in-it : IsInIt here c s age d.clerk
  in-it = record { start = record { owns = owns; stands = ap (λ z. with_start c b d.clerk g.clerks c z) at ∙ start-same c b d.clerk g.clerks }; session = session }

  abbrev behind : (ℕ → ℕ → Option Clerk) → Table (Table (ℕ × Call)) → List (ℕ × Msg) → System
  behind f calls p = record g { clerks = f; calls = calls; pool = p; ghost = γ }

  pub same-clerks : with_start c age.boot now here.clerks ≡ with_start c b now g.clerks
  same-clerks = ap (λ z. with_start c z now here.clerks) at ∙ with-twice c b d.clerk g.clerks now

  same-pool : here.pool ++ said ≡ g.pool ++ sends c e.outs
  same-pool = append_assoc g.pool (sends c d.outs) said ∙ ap (λ z. g.pool ++ (sends c d.outs ++ z)) (sym (sends-each c ms)) ∙ ap (λ z. g.pool ++ z) (sym (sends-more c d.outs (map out.Send ms)))

  pub system-is : with_clerk here c age.boot now here.calls said ≡ doing_in c b e γ g
  system-is = ap (λ f. behind f here.calls (here.pool ++ said)) same-clerks ∙ ap (λ z. behind (with_start c b now g.clerks) z (here.pool ++ said)) (sym (calls-more c d.outs ms g.calls)) ∙ ap (behind (with_start c b now g.clerks) (calls_after c e.outs g.calls)) same-pool

  pub goes-on-stand : AreSent here said → TokensAgree (view (doing_in c b e γ g)) → LogsAndImages (doing_in c b e γ g) → ClerkStands g c b e γ
  goes-on-stand sent tokens both =
      let after = subst AllAgree system-is (changes-stand here ((st.0).invariant, st.1, st.2, st.3) c s age d.clerk now in-it on here.calls said sent (subst (λ h. TokensAgree (view h)) (sym system-is) tokens) (subst LogsAndImages (sym system-is) both)) in
      (record { runs = (st.0).runs; shown = (st.0).shown ∙ ap (λ z. g.ghost.shown ++ z) (sym (lines-more c d.outs ms g.calls)); invariant = after.0 }, after.1, after.2, after.3)
