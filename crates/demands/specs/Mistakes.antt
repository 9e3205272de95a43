-- Seven ways of storing that look right, four in another order, one with a store left out and two in one group, each on one small pool up to a cut, after
-- which lookup answers otherwise than the table of names. These are computed cases and say nothing of other pools or cuts; what the right lists leave, in
-- every sound pool and at every cut, the laws of layout say.
-- Assumes nothing.
use Rattle.std.specs.Prelude.{Bool, not, List, [], ◌∷◌, ◌++◌, map, ℕ, ◌+◌, ◌-◌, eqb, length, take, drop, replicate, Option, None, Some}
use Rattle.tree.specs.Stores.{Store}
use Rattle.plan.specs.Plans.{made}
use Rattle.finding.specs.Lookups.{Answer, answer, lookup_of}
use Rattle.listing.specs.Listings.{list_of}
use Rattle.rules.specs.Puts.{put_plan}
use Rattle.rules.specs.Deletes.{delete_plan}
use Rattle.writing.specs.Calls.{Left}
use Rattle.demands.specs.Tables.{Table, blank, given, without}
use Rattle.demands.specs.Cases.{both, fresh, putting}

-- ---- pools of four leaves
-- freshly formatted; after "P 0000000000000200 1"; after "P 0000000000000202 2" and "P 000000000000020f 3" too; after "P 0000000000000222 4" too
abbrev pub unused : Left
unused = fresh 4 61 7

abbrev pub one : Left
one = putting 0x200 1 unused

abbrev pub three : Left
three = putting 0x20f 3 (putting 0x202 2 one)

abbrev pub four : Left
four = putting 0x222 4 three

-- the tables of names after the same puts
abbrev pub one_name : Table
one_name = given 0x200 1 blank

abbrev pub three_names : Table
three_names = given 0x20f 3 (given 0x202 2 one_name)

abbrev pub four_names : Table
four_names = given 0x222 4 three_names

-- the stores of a put and of a delete, in the order of their plan
abbrev pub put_from : Left → ℕ → ℕ → List Store
put_from l k v = (put_plan l.pool l.map k v).stores

abbrev pub delete_from : Left → ℕ → List Store
delete_from l k = (delete_plan l.pool k).stores

-- ---- mistakes
-- the last store made earlier, after the first i; and the store after the first i left out
abbrev pub last_after : ℕ → List Store → List Store
last_after i σ = take i σ ++ drop (length σ - 1) σ ++ drop i (take (length σ - 1) σ)

abbrev pub left_out : ℕ → List Store → List Store
left_out i σ = take i σ ++ drop (i + 1) σ

-- of a list in one group the last store alone has arrived: "any subset of the current one"
abbrev pub alone : List Store → List Store
alone σ = drop (length σ - 1) σ

-- A mistake: the pool before the operation, the stores of its plan, what is stored in their stead and how many stores are made before the cut; a name,
-- what lookup then answers for it, and the table of names that it has to answer as: "a put counts from its last store, a delete from its first".
pub record Mistake : Type 0 where
  pub start : Left
  pub right : List Store
  pub wrong : List Store → List Store
  pub cut : ℕ
  pub name : ℕ
  pub gives : Answer
  pub table : Table

-- a put into an empty pool that links before the leaf is written: name 0, which nobody put, is found, since the leaf's words are still 0
abbrev pub linked_early : Mistake
linked_early = record { start = unused; right = put_from unused 0x200 1; wrong = last_after 0; cut = 1; name = 0; gives = answer 0 0 0; table = blank }

-- The seven. Name 0x20f, which the last five look up, has file number 3 in the table before the operation and in the one after it.
unfoldable pub mistakes : List Mistake
mistakes =
    linked_early
    -- a split that links before the new node is written: the one name that is held is not found
    ∷ record { start = one; right = put_from one 0x202 2; wrong = last_after 2; cut = 3; name = 0x200; gives = answer 3 0 1; table = one_name }
    -- a split of a node that links before it rewrites the target's header: the target has h < w, which is damage
    ∷ record { start = three; right = put_from three 0x222 4; wrong = last_after 19; cut = 20; name = 0x20f; gives = answer 2 0 1; table = three_names }
    -- the same with the target's header left out, all stores made: damage
    ∷ record { start = three; right = put_from three 0x222 4; wrong = left_out 19; cut = 21; name = 0x20f; gives = answer 2 0 1; table = four_names }
    -- a delete that writes the other child's header before the reference: damage
    ∷ record { start = four; right = delete_from four 0x222; wrong = last_after 0; cut = 1; name = 0x20f; gives = answer 2 0 1; table = without 0x222 four_names }
    -- a split in one group, of which the reference has arrived alone: the new node's words are still 0, and a name that is held is not found
    ∷ record { start = three; right = put_from three 0x222 4; wrong = alone; cut = 1; name = 0x20f; gives = answer 3 0 1; table = three_names }
    -- a delete's two stores in one group, of which the header has arrived alone: damage
    ∷ record { start = four; right = delete_from four 0x222; wrong = alone; cut = 1; name = 0x20f; gives = answer 2 0 1; table = without 0x222 four_names }
    ∷ []

-- ---- what they come to
-- the words at the cut, after the wrong stores and after the right ones
abbrev pub wrongly : Mistake → List ℕ
wrongly m = made (take m.cut (m.wrong m.right)) m.start.pool

abbrev pub rightly : Mistake → List ℕ
rightly m = made (take m.cut m.right) m.start.pool

-- two answers have the same number, value and count of nodes
abbrev pub same : Answer → Answer → Bool
same a b = both (eqb a.number b.number) (both (eqb a.value b.value) (eqb a.nodes b.nodes))

-- an answer as a table has it: 0 and the file number of a name that is held, 3 and 0 of one that is not
abbrev pub finds : Option ℕ → Answer → Bool
finds (Some v) a = both (eqb a.number 0) (eqb a.value v)
finds None a = both (eqb a.number 3) (eqb a.value 0)

-- after the wrong stores lookup gives the answer named here, which is not the table's; after the right ones, at the same cut, it gives the table's
abbrev pub misleads : Mistake → Bool
misleads m =
    both (same (lookup_of (wrongly m) m.name) m.gives)
    (both (not (finds (m.table m.name) m.gives)) (finds (m.table m.name) (lookup_of (rightly m) m.name)))

-- how many names a listing hands out
abbrev pub listed : List ℕ → ℕ
listed pool = (list_of pool 0 (replicate 4 0) (replicate 4 0)).answer.count

-- the seven tests, and of the first mistake the listing too: one name after the wrong stores, none after the right ones
unfoldable pub shows : List Bool
shows =
    eqb (listed (wrongly linked_early)) 1
    ∷ eqb (listed (rightly linked_early)) 0
    ∷ map misleads mistakes
