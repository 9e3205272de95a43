-- What each turn of the code's survey comes to, by what its calls and matches tell. Damage anywhere below a node is damage at the node.
-- Assumes nothing.
use Rattle.std.specs.Prelude.{Option, Some, None}
use Rattle.std.specs.Option.{is_some}
use mathlib.Core.Path.{◌≡◌, refl, sym, ap, ◌∙◌}
use mathlib.Core.Bool.{Bool, true, false}
use mathlib.Core.Logic.{◌⊎◌, inl, inr}
use mathlib.Core.List.{List}
use Prim.Native.Nat.{ℕ, ◌+◌, ◌-◌, ◌≤◌, ◌<◌}
use native.Mathlib.Omega.{arith}
use borrow.Author.Tests.{eq-eqb, ne_eqb, lt-ltb, le-ltb, eqb-true}
use lib.Dec.{eqb, leb, ltb}
use lib.ListN.{length, get_or, set, drop, replicate}
use Rattle.std.proofs.lemmas.List.{length-take, length-drop, get_or-take, get_or-drop}
use Rattle.digits.specs.Choice.{pick}
use Rattle.digits.specs.Loops.{upto, tally}
use Rattle.digits.specs.Digits.{digit_of, first_diff}
use Rattle.digits.specs.Headers.{header_of, depth_of, length_of}
use Rattle.pool.specs.Sizes.{Sized, bytes_of}
use Rattle.pool.specs.Places.{word_at, key_at, node_word, header_at, child_at, children_at}
use Rattle.pool.specs.Refs.{ref_of}
use Rattle.pool.specs.declared.Ref.{Ref}
use Rattle.pool.specs.declared.Ref.TheVariants.{Empty, Leaf, Node, Bad}
use Rattle.walk.specs.Walks.{head_of, is_child, children_of}
use Rattle.walk.proofs.Nodes.{counted, uncounted}
use Rattle.layout.proofs.Base.{ref_empty as none_there}
use Rattle.survey.specs.declared.Span.{Span}
use Rattle.survey.specs.Surveys.{Census, Gather, Survey, survey, census, leaf_met, gather, join_of, Gathered, gathered, kid_of, head_judged, node_met, survey_from, survey_of}
use Rattle.survey.specs.Surveys.{answer_of, span_of, gather_of, Alike, Gives, Found}
use Rattle.survey.proofs.Loops.{pick_both, upto_turn, upto_keeps}
use Rattle.survey.proofs.Surveys.{survey_over, survey_on, node_bound_unseen}

-- a census is unsound
abbrev pub Over : Census → Type 0
Over s = s.sound ≡ false

-- the definition's survey where the code has answered a key
pub alike_some : {m : List ℕ} {last : ℕ} (u : Survey) → Alike m (Some last) u → u ≡ survey m (census last true)
alike_some {m} {last} u a = go u.census.sound refl
  where
    go : (t : Bool) → u.census.sound ≡ t → u ≡ survey m (census last true)
    go true e =
        let z = rw e at a.told in
        let q : last ≡ u.census.last = cc in
        rw (a.same e, q) (ap (λ (t : Bool). survey u.marks (census u.census.last t)) e)
    go false e = let z = rw e at a.told in cc

-- and where it has answered damage
pub alike_none : {m : List ℕ} (u : Survey) → Alike m None u → Over u.census
alike_none u a = go u.census.sound refl
  where
    go : (t : Bool) → u.census.sound ≡ t → Over u.census
    go true e = let z = rw e at a.told in cc
    go false e = e

-- damage in the code and in the definition
pub gives_over : (f : Survey → Survey) (m m' : List ℕ) → ((k : ℕ) → Over (f (survey m (census k true))).census) → Gives f m m' None
gives_over f m m' q k = record { told = rw (q k); same = λ h. let z : true ≡ false = sym h ∙ q k in cc }

-- ---- the sixteen children of a node, as a list
module _ {pool : List ℕ} {n : ℕ} (z : Sized pool n) (j : ℕ) (h : j + 1 < n) {items : List ℕ} (are : items ≡ children_at pool n j) where
  pub sixteen : length items ≡ 16
  sixteen = rw are (omega (arith, z.words, length-take 16 (drop (node_word n j + 1) pool), length-drop (node_word n j + 1) pool))

  pub child_in : (c : ℕ) → c < length items → (get_or items c 0 ≡ child_at pool n j c) × (c < 16)
  child_in c l =
      let k : c < 16 = omega (arith, sixteen) in
      (rw are (get_or-take 16 (drop (node_word n j + 1) pool) c 0 k ∙ get_or-drop (node_word n j + 1) pool c 0), k)

-- ---- a child joined to those before it
-- the last key met: k where there was no child before
abbrev met : ℕ → Option Span → ℕ
met k None = k
met k (Some x) = x.last

-- what the definition has gathered then
abbrev pub seen : ℕ → Option Span → Gather
seen k g = gather (census (met k g) true) (gather_of g).first (gather_of g).some

module _ (b c : ℕ) where
  join_over : (g : Gather) (s : Census) → Over s → Over (join_of b c g s).census
  unfolding join_of
  join_over g s h = rw h

  join_some : (g : Gather) (s : Census) → (join_of b c g s).some ≡ true
  unfolding join_of
  join_some g s =
      let P : Gather → Type 0 = λ x. x.some ≡ true in
      pick_both P s.sound
      (pick_both P (eqb (digit_of s.last b) c) (pick_both P g.some (pick_both P (leb _ (first_diff g.first s.last)) refl refl) refl) refl) refl

  -- the last key met before is not seen
  join_seen : (k : ℕ) (g : Option Span) (s : Census) → join_of b c (seen k g) s ≡ join_of b c (gather_of g) s
  unfolding join_of
  join_seen k g s = refl

  spanned : (g : Gather) {x : Span} → g.some ≡ true → Some x ≡ span_of g → g ≡ gather (census x.last true) x.first true
  spanned g {x} h e = go g.census.sound refl
    where
      go : (t : Bool) → g.census.sound ≡ t → g ≡ gather (census x.last true) x.first true
      go true p =
          let z = rw p at e in
          let q : x ≡ record { first = g.first; last = g.census.last } = cc in
          rw q (ap (λ (t : Bool). gather (census g.census.last t) g.first g.some) p ∙ ap (gather (census g.census.last true) g.first) h)
      go false p = let z = rw p at e in cc

  unspanned : (g : Gather) → None ≡ span_of g → Over g.census
  unspanned g e = go g.census.sound refl
    where
      go : (t : Bool) → g.census.sound ≡ t → Over g.census
      go true p = let z = rw p at e in cc
      go false p = p

  module _ (k : ℕ) (g : Option Span) (s : Census) where
    join_is : {x : Span} → Some x ≡ span_of (join_of b c (gather_of g) s) → join_of b c (seen k g) s ≡ seen k (Some x)
    join_is e = join_seen k g s ∙ spanned (join_of b c (gather_of g) s) (join_some (gather_of g) s) e

    join_damaged : None ≡ span_of (join_of b c (gather_of g) s) → Over (join_of b c (seen k g) s).census
    join_damaged e = ap (λ (x : Gather). x.census.sound) (join_seen k g s) ∙ unspanned (join_of b c (gather_of g) s) e

module _ (pool : List ℕ) (n j b : ℕ) (m : List ℕ) where
  -- the first c children surveyed, with the marks m and k the last key met before them
  abbrev kids : ℕ → ℕ → Gathered
  kids k c = upto c (kid_of (survey_from 17 pool n) pool n j b) (gathered m (gather (census k true) 0 false))

  -- the code has marks m' and has gathered g
  abbrev pub Kids : ℕ → List ℕ → Option Span → Type 0
  Kids c m' g = (k : ℕ) → kids k c ≡ gathered m' (seen k g)

  kids_none : Kids 0 m None
  unfolding upto
  kids_none k = refl

  module _ (c : ℕ) (m' : List ℕ) (g : Option Span) (so : Kids c m' g) {r : ℕ} (is : r ≡ child_at pool n j c) where
    kids_turn : (k : ℕ) → kids k (c + 1) ≡ kid_of (survey_from 17 pool n) pool n j b c (gathered m' (seen k g))
    kids_turn k =
        upto_turn (kid_of (survey_from 17 pool n) pool n j b) (gathered m (gather (census k true) 0 false)) c
        ∙ ap (kid_of (survey_from 17 pool n) pool n j b c) (so k)

    kids_empty : r ≡ 0 → Kids (c + 1) m' g
    kids_empty e k = kids_turn k ∙ rw (← is, eq-eqb r 0 e)

    -- the child as the definition surveys it
    kid : ℕ → Survey
    kid k = survey_from 17 pool n (b + 1) r (survey m' (census (met k g) true))

    module _ (there : r ≡ 0 → ⊥) where
      kids_child : (k : ℕ) → kids k (c + 1) ≡ gathered (kid k).marks (join_of b c (seen k g) (kid k).census)
      unfolding kid join_of
      kids_child k = kids_turn k ∙ rw (← is, ne_eqb r 0 there)

      -- damage below a child is damage to all
      kids_damaged : {m'' : List ℕ} → Gives (survey_from 17 pool n (b + 1) r) m' m'' None → (k : ℕ) → Over (kids k (c + 1)).sum.census
      unfolding kid
      kids_damaged told k = rw (kids_child k) (join_over b c (seen k g) (kid k).census (alike_none (kid k) (told (met k g))))

      module _ {m'' : List ℕ} {last : ℕ} (told : Gives (survey_from 17 pool n (b + 1) r) m' m'' (Some last)) where
        kids_met : (k : ℕ) → kids k (c + 1) ≡ gathered m'' (join_of b c (seen k g) (census last true))
        unfolding kid
        kids_met k =
            let q : kid k ≡ survey m'' (census last true) = alike_some (kid k) (told (met k g)) in
            kids_child k ∙ rw q

        kids_next : {x : Span} → Some x ≡ span_of (join_of b c (gather_of g) (census last true)) → Kids (c + 1) m'' (Some x)
        kids_next h k = kids_met k ∙ ap (gathered m'') (join_is b c k g (census last true) h)

        -- and so is a key that does not stand there
        kids_misplaced : None ≡ span_of (join_of b c (gather_of g) (census last true)) → (k : ℕ) → Over (kids k (c + 1)).sum.census
        kids_misplaced h k = rw (kids_met k) (join_damaged b c k g (census last true) h)

  -- and stays so
  kid_keeps : (c : ℕ) (g : Gathered) → Over g.sum.census → Over (kid_of (survey_from 17 pool n) pool n j b c g).sum.census
  kid_keeps c g h =
      pick_both (λ (x : Gathered). Over x.sum.census) (eqb (child_at pool n j c) 0) h
      (rw (survey_over pool n 17 (b + 1) (child_at pool n j c) {v = survey g.marks g.sum.census} h) (join_over b c g.sum g.sum.census h))

  kids_stay_over : (k c : ℕ) → c ≤ 16 → Over (kids k c).sum.census → Over (kids k 16).sum.census
  kids_stay_over k c l h =
      upto_keeps (kid_of (survey_from 17 pool n) pool n j b) (gathered m (gather (census k true) 0 false))
      (λ (x : Gathered). Over x.sum.census) kid_keeps c 16 l h

  -- where the code stands before child c: the marks m', what is gathered, and how many children there were
  pub record Joined (c : ℕ) (m' : List ℕ) (g : Option Span) (children : ℕ) : Type 0 where
    pub long : length m' ≡ bytes_of n
    pub counted : children ≡ tally c (is_child pool n j)
    pub none : g ≡ None → children ≡ 0
    pub all : Kids c m' g

  pub joined_none : length m ≡ bytes_of n → Joined 0 m None 0
  unfolding tally
  joined_none h = record { long = h; counted = refl; none = λ e. refl; all = kids_none }

  module _ {c : ℕ} {m' : List ℕ} {g : Option Span} {children : ℕ} (so : Joined c m' g children) {r : ℕ} (is : r ≡ child_at pool n j c) where
    pub joined_empty : r ≡ 0 → Joined (c + 1) m' g children
    joined_empty e =
        record { long = so.long; counted = so.counted ∙ sym (uncounted pool n j c is e); none = so.none; all = kids_empty c m' g so.all is e }

    module _ (there : r ≡ 0 → ⊥) where
      pub joined_damaged : {m'' : List ℕ} → c < 16 → Gives (survey_from 17 pool n (b + 1) r) m' m'' None → (k : ℕ) → Over (kids k 16).sum.census
      joined_damaged l told k = kids_stay_over k (c + 1) (omega arith) (kids_damaged c m' g so.all is there told k)

      module _ {m'' : List ℕ} {last : ℕ} (told : Gives (survey_from 17 pool n (b + 1) r) m' m'' (Some last)) where
        pub joined_child : {x : Span} → Some x ≡ span_of (join_of b c (gather_of g) (census last true)) → length m'' ≡ bytes_of n
            → Joined (c + 1) m'' (Some x) (children + 1)
        joined_child h k =
            record {
              long = k;
              counted = ap (λ (x : ℕ). x + 1) so.counted ∙ sym (counted pool n j c is there);
              none = λ e. cc;
              all = kids_next c m' g so.all is there told h;
            }

        pub joined_misplaced : c < 16 → None ≡ span_of (join_of b c (gather_of g) (census last true)) → (k : ℕ) → Over (kids k 16).sum.census
        joined_misplaced l h k = kids_stay_over k (c + 1) (omega arith) (kids_misplaced c m' g so.all is there told h k)

-- ---- the header
header_over : (word : ℕ) (g : Gather) → Over g.census → Over (head_judged word g)
unfolding head_judged
header_over word g h = pick_both Over (eqb (header_of (depth_of word) (length_of word) g.first) word) h refl

-- ---- a node, by what `header` and `accept` told
module _ (pool : List ℕ) (n w j : ℕ) (m : List ℕ) {word : ℕ} {h : Option ℕ} (there : word ≡ header_at pool n j) (is : h ≡ head_of w word) where
  abbrev node : Survey → Survey
  node = node_met (survey_from 17 pool n) pool n w j (head_of w (header_at pool n j))

  module _ (b : ℕ) (e : h ≡ Some b) where
    pub node_few : (m' : List ℕ) {children : ℕ} → children ≡ children_of pool n j → children < 2 → Gives node m m' None
    node_few m' q l = gives_over node m m' (λ k. rw (← there, ← is, e, ← q, lt-ltb _ 2 l))

    module _ (first : get_or m (n + j) 0 ≡ 0) where
      -- the marks with the node's own
      abbrev own : List ℕ
      own = set m (n + j) (w + 1)

      pub node_over : (m' : List ℕ) → ((k : ℕ) → Over (kids pool n j b own k 16).sum.census) → Gives node m m' None
      node_over m' q =
          gives_over node m m' (λ k. rw (← there, ← is, e, eq-eqb (get_or m (n + j) 0) 0 first)
          (pick_both (λ (v : Survey). Over v.census) (ltb (children_of pool n j) 2) refl (header_over (header_at pool n j) _ (q k))))

      pub node_judged : {m' : List ℕ} {x : Span} {answer : Option ℕ} {children : ℕ} → Joined pool n j b own 16 m' (Some x) children → 2 ≤ children
          → answer ≡ answer_of (head_judged word (gather (census x.last true) x.first true)) → Gives node m m' answer
      node_judged {m' = m'} {x = x} {children = children} so l p k =
          let q : node (survey m (census k true)) ≡ survey m' (head_judged word (gather (census x.last true) x.first true))
          = rw (← there, ← is, e, eq-eqb (get_or m (n + j) 0) 0 first, ← so.counted, le-ltb children 2 l, so.all k, ← there) in
          rw q (record { told = p; same = λ h. refl })

-- ---- a reference, by what `reference` told
only_0_empty : (n r : ℕ) → ref_of n r ≡ Empty → r ≡ 0
unfolding ref_of
only_0_empty n r h = go (eqb r 0) refl (leb r 1024) (ltb (r - 1) n) (leb r 2047) (ltb (r - 1025 + 1) n) h
  where
    go : (a : Bool) → eqb r 0 ≡ a → (b c d e : Bool)
        → pick a Empty (pick b (pick c (Leaf (r - 1)) Bad) (pick d (pick e (Node (r - 1025)) Bad) Bad)) ≡ Empty → r ≡ 0
    go true q b c d e h = eqb-true r 0 q
    go false q true true d e h = cc
    go false q true false d e h = cc
    go false q false c true true h = cc
    go false q false c true false h = cc
    go false q false c false e h = cc

module _ (pool : List ℕ) (n w r : ℕ) (m : List ℕ) {x : Ref} (is : x ≡ ref_of n r) where
  pub ref_empty : x ≡ Empty → r ≡ 0
  ref_empty e = only_0_empty n r (sym is ∙ e)

  pub ref_leaf : {i key : ℕ} {m' : List ℕ} {answer : Option ℕ} → x ≡ Leaf i → key ≡ key_at pool i → Gives (leaf_met i key) m m' answer
      → Gives (survey_from 17 pool n w r) m m' answer
  ref_leaf e q g k = rw (survey_on pool n 17 w r (survey m (census k true)) refl is e, ← q) (g k)

  pub ref_node : {j : ℕ} {m' : List ℕ} {answer : Option ℕ} → x ≡ Node j
      → Gives (node_met (survey_from 17 pool n) pool n w j (head_of w (header_at pool n j))) m m' answer → Gives (survey_from 17 pool n w r) m m' answer
  ref_node {j} e g k =
      rw (survey_on pool n 17 w r (survey m (census k true)) refl is e, node_bound_unseen pool n 17 w j (survey m (census k true)) (omega arith))
      (g k)

  pub ref_wrong : (r ≡ 0 → ⊥) → (x ≡ Empty) ⊎ (x ≡ Bad) → Gives (survey_from 17 pool n w r) m m None
  ref_wrong there (inl e) = absurd (there (ref_empty e))
  ref_wrong there (inr e) = gives_over (survey_from 17 pool n w r) m m (λ k. rw (survey_on pool n 17 w r (survey m (census k true)) refl is e))

-- ---- the whole pool, from marks that are all 0
module _ (pool : List ℕ) (n : ℕ) {m : List ℕ} (none : m ≡ replicate (bytes_of n) 0) {r : ℕ} (root : r ≡ word_at pool 1) where
  pub found : {m' : List ℕ} {answer : Option ℕ} → Gives (survey_from 17 pool n 0 r) m m' answer → Found m' (is_some answer) (survey_of pool n)
  unfolding survey_of
  found g =
      let a = rw (none, root) at (g 0) in
      record { judged = ap is_some a.told ∙ answered _; marked = a.same }
    where
      answered : (s : Census) → is_some (answer_of s) ≡ s.sound
      answered s = go s.sound
        where
          go : (t : Bool) → is_some (pick t (Some s.last) None) ≡ t
          go true = refl
          go false = refl

  pub found_none : r ≡ 0 → Found m true (survey_of pool n)
  unfolding survey_of
  found_none e =
      rw (none, survey_on pool n 17 0 (word_at pool 1) (survey (replicate (bytes_of n) 0) (census 0 true)) refl refl (ap (ref_of n) (sym root ∙ e) ∙ none_there n))
      (record { judged = refl; marked = λ h. refl })
