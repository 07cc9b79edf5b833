-- A run, with one step more.
use Rattle.std.proofs.Common.{◌≡◌, ℕ, List, [], ◌∷◌, ◌++◌, Option, Some, None, refl, ap, sym, ◌∙◌, subst, inl, inr, ⊎_elim, append-nil}
use Rattle.ec_wire.specs.declared.msg.Msg.{Msg}
use Rattle.ec_durable.specs.declared.record.Record.{Record}
use Rattle.ec_protocol.specs.declared.server.Server.{Server}
use Rattle.ec_server.specs.Keepers.{Did}
use Rattle.ec_lock.specs.Steps.{of}
use Rattle.ec_servernode.specs.declared.step.Step.{Step}
use Rattle.ec_servernode.specs.Breaking.{Breaks, Broken}
use Rattle.ec_servernode.specs.Run.{number_of, caller_after, caller_from, caller_by, owner_after, owner_from, box_after, box_from, after, leads, record_of, halts_of, halted, IsStep, IsRun}
use Rattle.ec_servernode.specs.declared.caller.Caller.{Caller}
use Rattle.ec_servernode.specs.Callers.{nobody}
use Rattle.ec_servernode.specs.Node.{Chain}
use Rattle.ec_servernode.proofs.Lists.{of_own, last_or_before}
use Rattle.ec_link.specs.Happenings.{each}
use Rattle.ec_base.specs.Lists.{first_of}
use Rattle.ec_lock.proofs.StepsLemmas.{of-append}
use Rattle.ec_link.proofs.HappeningsLemmas.{each-push}

pub run_push : (s : Server) (boxes : ℕ → List Msg) (xs : List Step) (x : Step) → IsRun s boxes xs → IsStep s boxes xs x → IsRun s boxes (xs ++ x ∷ [])
run_push s boxes xs x run is before y rest e =
    ⊎_elim (λ (h : (left : List Step) × (before ++ y ∷ left ≡ xs)). run before y h.0 h.1)
    (λ (h : (before ≡ xs) × (y ≡ x)). subst (λ l. IsStep s boxes l y) (sym h.0) (subst (IsStep s boxes xs) (sym h.1) is))
    (last_or_before before y rest xs x e)

pub no_run : (s : Server) (boxes : ℕ → List Msg) → IsRun s boxes []
no_run s boxes [] y rest e = absurd (cc e)
no_run s boxes (x ∷ before) y rest e = absurd (cc e)

pub broken-last : (xs : List Step) (x : Step) → Breaks x.deed x.lost → Broken (xs ++ x ∷ [])
broken-last [] x b = inl b
broken-last (y ∷ xs) x b = inr (broken-last xs x b)

pub leads-push : (s : Server) (xs : List Step) (x : Step) → leads s (xs ++ x ∷ []) ≡ after (leads s xs) x.deed
leads-push s [] x = refl
leads-push s (y ∷ xs) x = leads-push (after s y.deed) xs x

pub box-push : (c : ℕ) (q : List Msg) (xs : List Step) (x : Step) → box_from c q (xs ++ x ∷ []) ≡ box_after c (box_from c q xs) x.deed
box-push c q [] x = refl
box-push c q (y ∷ xs) x = box-push c (box_after c q y.deed) xs x

pub owner-push : (c : ℕ) (o : Option ℕ) (xs : List Step) (x : Step) → owner_from c o (xs ++ x ∷ []) ≡ owner_after c (owner_from c o xs) x
owner-push c o [] x = refl
owner-push c o (y ∷ xs) x = owner-push c (owner_after c o y) xs x

own-push : (k : Caller) (xs : List Step) (x : Step) → caller_from k (xs ++ x ∷ []) ≡ caller_after (caller_from k xs) x.deed
own-push k [] x = refl
own-push k (y ∷ xs) x = own-push (caller_after k y.deed) xs x

-- the other end of a link, with one step more of its pass
pub caller-push : (pass : ℕ) (xs : List Step) (x : Step) → x.pass ≡ pass → caller_by pass (xs ++ x ∷ []) ≡ caller_after (caller_by pass xs) x.deed
caller-push pass xs x is = ap (caller_from nobody) (of-append number_of pass xs (x ∷ []) ∙ ap (λ l. of number_of pass xs ++ l) (of_own pass (x ∷ []) (is, tt))) ∙ own-push nobody (of number_of pass xs) x

none_first : {A : Type 0} (xs : List A) → first_of xs ≡ None → xs ≡ []
none_first [] e = refl
none_first (x ∷ xs) e = absurd (cc e)

pub halted-push : (xs : List Step) (x : Step) → halted xs ≡ None → halted (xs ++ x ∷ []) ≡ first_of (halts_of x.deed)
halted-push xs x none = ap first_of (each-push (λ (s : Step). halts_of s.deed) xs x ∙ ap (λ l. l ++ halts_of x.deed) (none_first (each (λ (s : Step). halts_of s.deed) xs) none))

chain-append : {K : Type 0} (did : K → Record → K → Type 0) (rs : List Record) (r : Record) (old mid new : K) → Chain did rs old mid → did mid r new → Chain did (rs ++ r ∷ []) old new
chain-append did [] r old mid new c d = (new, subst (λ k. did k r new) c d, refl)
chain-append did (x ∷ rs) r old mid new c d = (c.0, c.1, chain-append did rs r c.0 mid new c.2 d)

-- the record of one step more
pub chain-push : {K : Type 0} (did : K → Record → K → Type 0) (rs : List Record) (o : Option Record) (old mid new : K) → Chain did rs old mid → Did did o mid new → Chain did (rs ++ record_of o) old new
chain-push did rs None old mid new c d = subst (λ l. Chain did l old new) (sym (append-nil rs)) (subst (Chain did rs old) (sym d) c)
chain-push did rs (Some r) old mid new c d = chain-append did rs r old mid new c d
