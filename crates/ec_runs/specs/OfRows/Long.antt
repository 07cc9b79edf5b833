-- Long transcripts.
use Rattle.std.specs.Prelude.{◌+◌, ◌++◌, ℕ, zero, suc, List, [], ◌∷◌, None, Some, codes, map}
use Rattle.ec_plain.specs.declared.call.Call.TheVariants as call
use Rattle.ec_plain.specs.declared.call.Reply.TheVariants as reply
use Rattle.ec_plain.specs.declared.call.Refusal.TheVariants as no
use Rattle.ec_history.specs.declared.entry.Answer.TheVariants as answer
use Rattle.ec_history.specs.declared.shown.Shown.{Shown}
use Rattle.ec_history.specs.declared.shown.Shown.TheVariants.{Waits, Answered, Durable}
use Rattle.ec_runs.specs.OfRows.Clerks.{A, B}
use Rattle.ec_runs.specs.OfRows.Parts.{first_call, awaited, numbers_from, lettered, made_from}

-- sixteen new files in a directory, of which the first, on this line, waits for ids
abbrev sixteen_behind : ℕ → List Shown
sixteen_behind n =
    Waits (n + 1) A (call.Create (codes "d" ∷ lettered (codes "f") n ∷ []))
    ∷ made_from (codes "d" ∷ []) 16 n (n + 1)

-- a directory of 128 entries
abbrev pub full_directory : List Shown
full_directory =
    first_call (call.Mkdir (codes "d" ∷ []))
    ++ made_from (codes "d" ∷ []) 15 1 2
    ++ sixteen_behind 16
    ++ sixteen_behind 32
    ++ sixteen_behind 48
    ++ sixteen_behind 64
    ++ sixteen_behind 80
    ++ sixteen_behind 96
    ++ sixteen_behind 112
    ++ awaited 129 A (call.Create (codes "d" ∷ codes "f128" ∷ [])) (answer.Reply reply.Ok) (Some 129)
    ++ Answered 130 A (call.Create (codes "d" ∷ codes "x" ∷ [])) (answer.Reply (reply.Refused no.DirFull)) None
    ∷ Answered 131 A (call.Rename (codes "d" ∷ codes "f1" ∷ []) (codes "d" ∷ codes "x" ∷ [])) (answer.Reply reply.Ok) (Some 130)
    ∷ Answered 132 A (call.Rename (codes "d" ∷ codes "x" ∷ []) (codes "d" ∷ codes "f2" ∷ [])) (answer.Reply reply.Ok) (Some 131)
    ∷ Answered 133 A (call.Create (codes "d" ∷ codes "y" ∷ [])) (answer.Reply reply.Ok) (Some 132)
    ∷ []

-- so many files, from the Nth one fN and this line on, each made, written and renamed
abbrev renamed_from : ℕ → ℕ → ℕ → List Shown
renamed_from zero n line = []
renamed_from (suc k) n line =
    Answered line A (call.Create (codes "src" ∷ codes "t" ∷ [])) (answer.Reply reply.Ok) (Some line)
    ∷ Answered (line + 1) A (call.Write (codes "src" ∷ codes "t" ∷ []) 0 (lettered (codes "v") n)) (answer.Reply reply.Ok) (Some (line + 1))
    ∷ Answered (line + 2) A (call.Rename (codes "src" ∷ codes "t" ∷ []) (codes "src" ∷ lettered (codes "f") n ∷ [])) (answer.Reply reply.Ok) (Some (line + 2))
    ∷ renamed_from k (n + 1) (line + 3)

-- ten names, from the Nth one fN on
abbrev ten_from : ℕ → List (List ℕ)
ten_from n = map (lettered (codes "f")) (numbers_from 10 n)

-- 40 files, each made, written and renamed
abbrev pub renamed_files : List Shown
renamed_files =
    first_call (call.Mkdir (codes "src" ∷ []))
    ++ renamed_from 15 1 2
    ++ Waits 47 A (call.Create (codes "src" ∷ codes "t" ∷ []))
    ∷ renamed_from 16 16 47
    ++ Waits 95 A (call.Create (codes "src" ∷ codes "t" ∷ []))
    ∷ renamed_from 9 32 95
    ++ Waits 122 B (call.List (codes "src" ∷ []))
    ∷ Durable A (1 ∷ [])
    ∷ Durable A (numbers_from 64 2)
    ∷ Durable A (numbers_from 56 66)
    ∷ Answered 122 B (call.List (codes "src" ∷ [])) (answer.Reply (reply.Names (codes "f1" ∷ ten_from 10 ++ codes "f2" ∷ ten_from 20 ++ codes "f3" ∷ ten_from 30 ++ codes "f4" ∷ codes "f40" ∷ codes "f5" ∷ codes "f6" ∷ codes "f7" ∷ codes "f8" ∷ codes "f9" ∷ []))) None
    ∷ []
