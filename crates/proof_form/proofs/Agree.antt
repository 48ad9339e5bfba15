-- Lines ask about sets on the states of the model alone: proofs of one form whose sets agree there show the same.
use Rattle.std.proofs.Common.{◌≡◌, ℕ, zero, suc, ◌+◌, Bool, true, false, not, ◌&&◌, ◌||◌, List, [], ◌∷◌, ◌++◌, Option, Some, None, refl, sym, ◌∙◌, subst}
use Rattle.std.specs.Prelude.{All, if◌then◌else◌, ◌==◌}
use Rattle.std.specs.Option.{option_and_then}
use Rattle.std.proofs.lemmas.List.Elements.{All-cons, All-head, All-tail}
use Rattle.kripke_model.specs.Ctl.{Ctl}
use Rattle.kripke_model.specs.Signs.{ProofRule, node_count}
use Rattle.kripke_model.specs.Step.{IsState, Initial}
use Rattle.kripke_model.specs.System.{System, State}
use Rattle.path_laws.specs.StateSet.{StateSet, ◌∈◌}
use Rattle.fair_rules.specs.SetLists.{everything, nothing, set_at}
use Rattle.fair_rules.specs.Rules.{Layer}
use Rattle.fair_rules.specs.Claims.{Entry, Proof, either, both, join, join_layers, entry_set, claimed}
use Rattle.fair_rules.specs.Fixpoints.{without}
use Rattle.fair_rules.specs.Checks.{Check, IsMet, LineHolds, IsFirstBad, layer_lines, step_lines, until_lines, reach_lines}
use Rattle.proof_form.specs.Agrees.{SameOn}
use Rattle.fair_rules.specs.Block.{Listed, Block, same_sign, entry_of, proof_of, Demand, demand, demand_at, asked_lines, listed_lines, claim_lines, block_lines}
use Rattle.fair_rules.specs.Nodes.{node_at}

module _ (m : System) where
  -- ---- two checks, two lines, two lists of lines

  abbrev pub AgreeCheck : Check → Check → Type 0
  AgreeCheck (Check.Inside F G) (Check.Inside F' G') = SameOn m F F' × SameOn m G G'
  AgreeCheck (Check.Leads F G) (Check.Leads F' G') = SameOn m F F' × SameOn m G G'
  AgreeCheck (Check.Keeps F G) (Check.Keeps F' G') = SameOn m F F' × SameOn m G G'
  AgreeCheck (Check.Starts F) (Check.Starts F') = SameOn m F F'
  AgreeCheck (Check.Begins s F) (Check.Begins t F') = (s ≡ t) × SameOn m F F'
  AgreeCheck c d = ⊥

  met : (c d : Check) → AgreeCheck c d → IsMet m c → IsMet m d
  met (Check.Inside F G) (Check.Inside F' G') a h = λ s is_state e. sym (a.1 s is_state) ∙ h s is_state (a.0 s is_state ∙ e)
  met (Check.Leads F G) (Check.Leads F' G') a h = λ s is_state e.
      let x = h s is_state (a.0 s is_state ∙ e) in (x.0, x.1, x.2, sym (a.1 x.0 x.1) ∙ x.3)
  met (Check.Keeps F G) (Check.Keeps F' G') a h = λ s is_state e t next step. sym (a.1 t next) ∙ h s is_state (a.0 s is_state ∙ e) t next step
  met (Check.Starts F) (Check.Starts F') a h = λ s is_state initial. sym (a s is_state) ∙ h s is_state initial
  met (Check.Begins s F) (Check.Begins t F') a h =
      let k = subst (λ u. IsState m u × Initial m u × u ∈ F) a.0 h in (k.0, k.1, sym (a.1 t k.0) ∙ k.2)
  met c d a h = absurd a

  abbrev pub AgreeLine : List Check → List Check → Type 0
  AgreeLine [] [] = Unit {0}
  AgreeLine (c ∷ cs) (d ∷ ds) = AgreeCheck c d × AgreeLine cs ds
  AgreeLine cs ds = ⊥

  line_met : (cs ds : List Check) → AgreeLine cs ds → All (IsMet m) cs → All (IsMet m) ds
  line_met [] [] a h = h
  line_met (c ∷ cs) (d ∷ ds) a h = All-cons (IsMet m) d ds (met c d a.0 (All-head (IsMet m) c cs h)) (line_met cs ds a.1 (All-tail (IsMet m) c cs h))
  line_met [] (d ∷ ds) a h = absurd a
  line_met (c ∷ cs) [] a h = absurd a

  abbrev pub AgreeLines : List (List Check) → List (List Check) → Type 0
  AgreeLines [] [] = Unit {0}
  AgreeLines (cs ∷ xs) (ds ∷ ys) = AgreeLine cs ds × AgreeLines xs ys
  AgreeLines xs ys = ⊥

  -- so a line that holds in one holds in the other
  pub lines_met : (xs ys : List (List Check)) → AgreeLines xs ys → (n : ℕ) → LineHolds m xs n → LineHolds m ys n
  lines_met [] [] a n h = h
  lines_met (cs ∷ xs) (ds ∷ ys) a zero h = line_met cs ds a.0 h
  lines_met (cs ∷ xs) (ds ∷ ys) a (suc n) h = lines_met xs ys a.1 n h
  lines_met [] (ds ∷ ys) a n h = absurd a
  lines_met (cs ∷ xs) [] a n h = absurd a

  pub join_lines : (xs ys us vs : List (List Check)) → AgreeLines xs ys → AgreeLines us vs → AgreeLines (xs ++ us) (ys ++ vs)
  join_lines [] [] us vs a b = b
  join_lines (cs ∷ xs) (ds ∷ ys) us vs a b = (a.0, join_lines xs ys us vs a.1 b)
  join_lines [] (ds ∷ ys) us vs a b = absurd a
  join_lines (cs ∷ xs) [] us vs a b = absurd a

  -- ---- and the other way round

  same_back : (F G : StateSet) → SameOn m F G → SameOn m G F
  same_back F G a s is_state = sym (a s is_state)

  check_back : (c d : Check) → AgreeCheck c d → AgreeCheck d c
  check_back (Check.Inside F G) (Check.Inside F' G') a = (same_back F F' a.0, same_back G G' a.1)
  check_back (Check.Leads F G) (Check.Leads F' G') a = (same_back F F' a.0, same_back G G' a.1)
  check_back (Check.Keeps F G) (Check.Keeps F' G') a = (same_back F F' a.0, same_back G G' a.1)
  check_back (Check.Starts F) (Check.Starts F') a = same_back F F' a
  check_back (Check.Begins s F) (Check.Begins t F') a = (sym a.0, same_back F F' a.1)
  check_back c d a = absurd a

  line_back : (cs ds : List Check) → AgreeLine cs ds → AgreeLine ds cs
  line_back [] [] a = a
  line_back (c ∷ cs) (d ∷ ds) a = (check_back c d a.0, line_back cs ds a.1)
  line_back [] (d ∷ ds) a = absurd a
  line_back (c ∷ cs) [] a = absurd a

  pub lines_back : (xs ys : List (List Check)) → AgreeLines xs ys → AgreeLines ys xs
  lines_back [] [] a = a
  lines_back (cs ∷ xs) (ds ∷ ys) a = (line_back cs ds a.0, lines_back xs ys a.1)
  lines_back [] (ds ∷ ys) a = absurd a
  lines_back (cs ∷ xs) [] a = absurd a

  -- the first line that fails is the same
  pub first_bad_agrees : (xs ys : List (List Check)) → AgreeLines xs ys → (n : ℕ) → IsFirstBad m xs n → IsFirstBad m ys n
  first_bad_agrees xs ys a n h = (
    λ i less. lines_met xs ys a i (h.0 i less),
    λ holds. h.1 (lines_met ys xs (lines_back xs ys a) n holds),
  )

  -- ---- sets at a state

  pub either_same : (F F' G G' : StateSet) → SameOn m F F' → SameOn m G G' → SameOn m (either F G) (either F' G')
  either_same F F' G G' a b s is_state = λ i. a s is_state i || b s is_state i

  pub both_same : (F F' G G' : StateSet) → SameOn m F F' → SameOn m G G' → SameOn m (both F G) (both F' G')
  both_same F F' G G' a b s is_state = λ i. a s is_state i && b s is_state i

  pub without_same : (F F' G G' : StateSet) → SameOn m F F' → SameOn m G G' → SameOn m (without F G) (without F' G')
  without_same F F' G G' a b s is_state = λ i. a s is_state i && not (b s is_state i)

  -- ---- lists

  pub data AgreeSets : List StateSet → List StateSet → Type 0 where
    no_sets : AgreeSets [] []
    more_sets : {F G : StateSet} {Fs Gs : List StateSet} → SameOn m F G → AgreeSets Fs Gs → AgreeSets (F ∷ Fs) (G ∷ Gs)

  pub data AgreeLists : List (List StateSet) → List (List StateSet) → Type 0 where
    no_lists : AgreeLists [] []
    more_lists : {F G : List StateSet} {Fs Gs : List (List StateSet)} → AgreeSets F G → AgreeLists Fs Gs → AgreeLists (F ∷ Fs) (G ∷ Gs)

  pub data AgreeLayers : List Layer → List Layer → Type 0 where
    no_layers : AgreeLayers [] []
    more_layers : {c : ℕ} {F G : StateSet} {ls ks : List Layer} → SameOn m F G → AgreeLayers ls ks
        → AgreeLayers (record { avoided = c; states = F } ∷ ls) (record { avoided = c; states = G } ∷ ks)

  pub join_same : {Fs Gs : List StateSet} → AgreeSets Fs Gs → SameOn m (join Fs) (join Gs)
  join_same no_sets = λ s is_state. refl
  join_same (more_sets a rest) = λ s is_state. λ i. a s is_state i || join_same rest s is_state i

  pub join_layers_same : {ls ks : List Layer} → AgreeLayers ls ks → SameOn m (join_layers ls) (join_layers ks)
  join_layers_same no_layers = λ s is_state. refl
  join_layers_same (more_layers a rest) = λ s is_state. λ i. a s is_state i || join_layers_same rest s is_state i

  pub at_same : {Fs Gs : List StateSet} → AgreeSets Fs Gs → (k : ℕ) → SameOn m (set_at Fs k) (set_at Gs k)
  at_same no_sets k = λ s is_state. refl
  at_same (more_sets a rest) zero = a
  at_same (more_sets a rest) (suc k) = at_same rest k

  -- ---- lists of lines

  pub layers_agree : {A B : List StateSet} → AgreeSets A B → {f f' out out' e e' : StateSet} → SameOn m f f' → SameOn m out out' → SameOn m e e'
      → {ls ks : List Layer} → AgreeLayers ls ks → AgreeLines (layer_lines A f out e ls) (layer_lines B f' out' e' ks)
  layers_agree ab sf so se no_layers = tt
  layers_agree {A} {B} ab {f} {f'} {out} {out'} {e} {e'} sf so se (more_layers {c} {F} {G} a rest) = (
    (
      (a, sf),
      (
        (
          a,
          either_same out out' (either e (both F (set_at A c))) (either e' (both G (set_at B c))) so
              (either_same e e' (both F (set_at A c)) (both G (set_at B c)) se (both_same F G (set_at A c) (set_at B c) a (at_same ab c))),
        ),
        tt,
      ),
    ),
    layers_agree {A = A} {B = B} ab {f = f} {f' = f'} {out = out} {out' = out'} {e = either e F} {e' = either e' G} sf so (either_same e e' F G se a) rest,
  )

  pub steps_agree : {f f' x x' e e' : StateSet} → SameOn m f f' → SameOn m x x' → SameOn m e e'
      → {Fs Gs : List StateSet} → AgreeSets Fs Gs → AgreeLines (step_lines f x e Fs) (step_lines f' x' e' Gs)
  steps_agree sf sx se no_sets = tt
  steps_agree {f} {f'} {x} {x'} {e} {e'} sf sx se (more_sets {F} {G} a rest) = (
    ((a, sf), ((a, either_same x x' e e' sx se), tt)),
    steps_agree {f = f} {f' = f'} {x = x} {x' = x'} {e = either e F} {e' = either e' G} sf sx (either_same e e' F G se a) rest,
  )

  pub untils_agree : {f f' x x' : StateSet} → SameOn m f f' → SameOn m x x' → {Fs Gs : List StateSet} → AgreeSets Fs Gs
      → AgreeLines (until_lines f x Fs) (until_lines f' x' Gs)
  untils_agree sf sx no_sets = tt
  untils_agree {f} {f'} {x} {x'} sf sx (more_sets {F} {G} a rest) = (((a, sx), tt), steps_agree {f = f} {f' = f'} {x = nothing} {x' = nothing} {e = F} {e' = G} sf (λ s is_state. refl) a rest)

  pub reaches_agree : {set set' : StateSet} → SameOn m set set' → {V W : List StateSet} → AgreeSets V W → {Fs Gs : List (List StateSet)} → AgreeLists Fs Gs
      → AgreeLines (reach_lines set V Fs) (reach_lines set' W Gs)
  reaches_agree ss no_sets lists = tt
  reaches_agree {set} {set'} ss (more_sets a rest) no_lists = (((ss, λ s is_state. refl), tt), reaches_agree {set = set} {set' = set'} ss rest no_lists)
  reaches_agree {set} {set'} ss (more_sets {F = v} {G = w} {Fs = V} {Gs = W} a rest) (more_lists {F} {G} {Fs} {Gs} b lists) = (
    ((ss, join_same b), tt),
    join_lines (step_lines set (both set v) nothing F) (step_lines set' (both set' w) nothing G) (reach_lines set V Fs) (reach_lines set' W Gs)
        (steps_agree {f = set} {f' = set'} {x = both set v} {x' = both set' w} {e = nothing} {e' = nothing} ss (both_same set set' v w ss a) (λ s is_state. refl) b)
        (reaches_agree {set = set} {set' = set'} ss rest lists),
  )

  -- ---- entries and claimed sets

  pub data AgreeEntry : Entry → Entry → Type 0 where
    absent : AgreeEntry Entry.Absent Entry.Absent
    ex : {F G : StateSet} → SameOn m F G → AgreeEntry (Entry.EX F) (Entry.EX G)
    ax : {F G : StateSet} → SameOn m F G → AgreeEntry (Entry.AX F) (Entry.AX G)
    eu : {Fs Gs : List StateSet} → AgreeSets Fs Gs → AgreeEntry (Entry.EU Fs) (Entry.EU Gs)
    au : {ls ks : List Layer} → AgreeLayers ls ks → AgreeEntry (Entry.AU ls) (Entry.AU ks)
    ar : {F G : StateSet} → SameOn m F G → AgreeEntry (Entry.AR F) (Entry.AR G)
    er : {F G : StateSet} {Fs Gs : List (List StateSet)} {us vs : List StateSet} → SameOn m F G → AgreeLists Fs Gs → AgreeSets us vs → AgreeEntry (Entry.ER F Fs us) (Entry.ER G Gs vs)

  pub data AgreeListed : List Listed → List Listed → Type 0 where
    no_listed : AgreeListed [] []
    more_listed : {i : ℕ} {sign : Bool} {d e : Entry} {xs ys : List Listed} → AgreeEntry d e → AgreeListed xs ys
        → AgreeListed (record { node = i; plus = sign; entry = d } ∷ xs) (record { node = i; plus = sign; entry = e } ∷ ys)

  pub record AgreeProof (p q : Proof) : Type 0 where
    pub nonfair : AgreeLayers p.nonfair q.nonfair
    pub fair : SameOn m p.fair q.fair
    pub reaches : AgreeLists p.reaches q.reaches
    pub entries : (n : ℕ) (sign : Bool) → AgreeEntry (p.entries n sign) (q.entries n sign)

  pub entry_same : {ls ks : List Layer} → AgreeLayers ls ks → {d e : Entry} → AgreeEntry d e → {g h : StateSet} → SameOn m g h → SameOn m (entry_set ls d g) (entry_set ks e h)
  entry_same nf absent gh = λ s is_state. refl
  entry_same nf (ex a) gh = a
  entry_same nf (ax a) gh = a
  entry_same nf (eu a) gh = join_same a
  entry_same nf (au a) gh = λ s is_state. λ i. gh s is_state i || (join_layers_same nf s is_state i || join_layers_same a s is_state i)
  entry_same nf (ar a) gh = λ s is_state. λ i. a s is_state i || join_layers_same nf s is_state i
  entry_same nf (er a lists untils) gh = λ s is_state. λ i. a s is_state i || join_same untils s is_state i

  module _ (p q : Proof) (pq : AgreeProof p q) where
    pub claimed_same : (f : Ctl) (n : ℕ) (sign : Bool) → SameOn m (claimed m p f n sign) (claimed m q f n sign)
    claimed_same (Ctl.Leaf e) n sign = λ s is_state. refl
    claimed_same (Ctl.Not f) n sign = claimed_same f (n + 1) (not sign)
    claimed_same (Ctl.And f g) n true = λ s is_state. λ i. claimed_same f (n + 1) true s is_state i && claimed_same g (n + 1 + node_count f) true s is_state i
    claimed_same (Ctl.And f g) n false = λ s is_state. λ i. claimed_same f (n + 1) false s is_state i || claimed_same g (n + 1 + node_count f) false s is_state i
    claimed_same (Ctl.Or f g) n true = λ s is_state. λ i. claimed_same f (n + 1) true s is_state i || claimed_same g (n + 1 + node_count f) true s is_state i
    claimed_same (Ctl.Or f g) n false = λ s is_state. λ i. claimed_same f (n + 1) false s is_state i && claimed_same g (n + 1 + node_count f) false s is_state i
    claimed_same (Ctl.Implies f g) n true = λ s is_state. λ i. claimed_same f (n + 1) false s is_state i || claimed_same g (n + 1 + node_count f) true s is_state i
    claimed_same (Ctl.Implies f g) n false = λ s is_state. λ i. claimed_same f (n + 1) true s is_state i && claimed_same g (n + 1 + node_count f) false s is_state i
    claimed_same (Ctl.Iff f g) n true = λ s is_state. λ i.
        (claimed_same f (n + 1) true s is_state i && claimed_same g (n + 1 + node_count f) true s is_state i)
        || (claimed_same f (n + 1) false s is_state i && claimed_same g (n + 1 + node_count f) false s is_state i)
    claimed_same (Ctl.Iff f g) n false = λ s is_state. λ i.
        (claimed_same f (n + 1) true s is_state i && claimed_same g (n + 1 + node_count f) false s is_state i)
        || (claimed_same f (n + 1) false s is_state i && claimed_same g (n + 1 + node_count f) true s is_state i)
    claimed_same (Ctl.Quant op f) n sign = entry_same pq.nonfair (pq.entries n sign) (claimed_same f (n + 1) sign)
    claimed_same (Ctl.Until all f g) n sign = entry_same pq.nonfair (pq.entries n sign) (claimed_same g (n + 1 + node_count f) sign)

    -- ---- what is asked

    pub data AgreeDemand : Option Demand → Option Demand → Type 0 where
      nothing_asked : AgreeDemand None None
      asked : {r : ProofRule} {F G F' G' : StateSet} → SameOn m F F' → SameOn m G G'
          → AgreeDemand (Some (record { rule = r; first = F; last = G })) (Some (record { rule = r; first = F'; last = G' }))

    own_same : (o : Option Ctl) (i : ℕ) (sign : Bool) → AgreeDemand (option_and_then (λ c. demand m p c i sign) o) (option_and_then (λ c. demand m q c i sign) o)
    own_same (Some (Ctl.Quant op f)) i sign = asked (λ s is_state. refl) (claimed_same f (i + 1) sign)
    own_same (Some (Ctl.Until all f g)) i sign = asked (claimed_same f (i + 1) sign) (claimed_same g (i + 1 + node_count f) sign)
    own_same None i sign = nothing_asked
    own_same (Some _) i sign = nothing_asked

    pub demand_same : (f : Ctl) (n i : ℕ) (sign : Bool) → AgreeDemand (demand_at m p f n i sign) (demand_at m q f n i sign)
    demand_same f n i sign = own_same (node_at f n i) i sign

    -- ---- the lines of entries and of the claim

    module _ (V W A B : List StateSet) (vw : AgreeSets V W) (ab : AgreeSets A B) where
      pub asked_agree : {o u : Option Demand} → AgreeDemand o u → {d e : Entry} → AgreeEntry d e → AgreeLines (asked_lines V A p o d) (asked_lines W B q u e)
      asked_agree nothing_asked a = tt
      asked_agree (asked sf sl) absent = tt
      asked_agree (asked {F} {G} {F'} {G'} sf sl) (ex a) = (tt, (((a, both_same G G' p.fair q.fair sl pq.fair), tt), tt))
      asked_agree (asked {F} {G} {F'} {G'} sf sl) (ax a) = (tt, (((a, either_same G G' (join_layers p.nonfair) (join_layers q.nonfair) sl (join_layers_same pq.nonfair)), tt), tt))
      asked_agree (asked {F} {G} {F'} {G'} sf sl) (ar {F = set} {G = set'} a) = (
        tt,
        (((a, sl), ((without_same set set' F F' a sf, either_same set set' (join_layers p.nonfair) (join_layers q.nonfair) a (join_layers_same pq.nonfair)), tt)), tt),
      )
      asked_agree (asked {F} {G} {F'} {G'} sf sl) (eu a) =
          (tt, untils_agree {f = F} {f' = F'} {x = both G p.fair} {x' = both G' q.fair} sf (both_same G G' p.fair q.fair sl pq.fair) a)
      asked_agree (asked {F} {G} {F'} {G'} sf sl) (au a) = (
        tt,
        layers_agree {A = A} {B = B} ab {f = F} {f' = F'} {out = either G (join_layers p.nonfair)} {out' = either G' (join_layers q.nonfair)} {e = nothing} {e' = nothing} sf
            (either_same G G' (join_layers p.nonfair) (join_layers q.nonfair) sl (join_layers_same pq.nonfair)) (λ s is_state. refl) a,
      )
      asked_agree (asked {F} {G} {F'} {G'} sf sl) (er {F = set} {G = set'} {Fs} {Gs} {us} {vs} a lists untils) = (
        tt,
        (
          ((a, sl), tt),
          join_lines (reach_lines set V Fs) (reach_lines set' W Gs)
              ([] ∷ until_lines G (both F (both G p.fair)) us) ([] ∷ until_lines G' (both F' (both G' q.fair)) vs)
              (reaches_agree {set = set} {set' = set'} a vw lists) (
                tt,
                untils_agree {f = G} {f' = G'} {x = both F (both G p.fair)} {x' = both F' (both G' q.fair)} sl
                    (both_same F F' (both G p.fair) (both G' q.fair) sf (both_same G G' p.fair q.fair sl pq.fair)) untils,
              ),
        ),
      )

      pub listed_agree : (f : Ctl) (n : ℕ) {xs ys : List Listed} → AgreeListed xs ys → AgreeLines (listed_lines m V A p f n xs) (listed_lines m W B q f n ys)
      listed_agree f n no_listed = tt
      listed_agree f n (more_listed {i} {sign} {d} {e} {xs} {ys} a rest) =
          join_lines (asked_lines V A p (demand_at m p f n i sign) d) (asked_lines W B q (demand_at m q f n i sign) e) (listed_lines m V A p f n xs) (listed_lines m W B q f n ys)
          (asked_agree (demand_same f n i sign) a) (listed_agree f n rest)

    pub claims_agree : (f : Ctl) (n : ℕ) (at : Option State) → AgreeLines (claim_lines m p f n at) (claim_lines m q f n at)
    claims_agree f n None = ((claimed_same f n true, tt), tt)
    claims_agree f n (Some s) = (((refl, claimed_same f n false), tt), (tt, tt))

  -- ---- blocks

  either_entry : (b : Bool) {x y u v : Entry} → AgreeEntry x u → AgreeEntry y v → AgreeEntry (if b then x else y) (if b then u else v)
  either_entry true a b = a
  either_entry false a b = b

  pub entry_of_same : {xs ys : List Listed} → AgreeListed xs ys → (i : ℕ) (sign : Bool) → AgreeEntry (entry_of xs i sign) (entry_of ys i sign)
  entry_of_same no_listed i sign = absent
  entry_of_same (more_listed {i = j} {sign = plus} a rest) i sign = either_entry ((j == i) && same_sign plus sign) a (entry_of_same rest i sign)

  pub record AgreeBlock (b c : Block) : Type 0 where
    pub nonfair : AgreeLayers b.nonfair c.nonfair
    pub fair : SameOn m b.fair c.fair
    pub reaches : AgreeLists b.reaches c.reaches
    pub entries : AgreeListed b.entries c.entries
    pub at : b.at ≡ c.at

  -- Blocks whose sets agree have lines that agree, also where the constraints' sets do.
  pub block_agree : (V W A B : List StateSet) → AgreeSets V W → AgreeSets A B → (b c : Block) → AgreeBlock b c → (f : Ctl) (n : ℕ)
      → AgreeLines (block_lines m V A b f n) (block_lines m W B c f n)
  block_agree V W A B vw ab b c bc f n =
      let pq : AgreeProof (proof_of b) (proof_of c) = record { nonfair = bc.nonfair; fair = bc.fair; reaches = bc.reaches; entries = entry_of_same bc.entries } in
      join_lines ([] ∷ layer_lines A everything nothing nothing b.nonfair) ([] ∷ layer_lines B everything nothing nothing c.nonfair)
      (([] ∷ reach_lines b.fair V b.reaches) ++ (listed_lines m V A (proof_of b) f n b.entries ++ claim_lines m (proof_of b) f n b.at))
      (([] ∷ reach_lines c.fair W c.reaches) ++ (listed_lines m W B (proof_of c) f n c.entries ++ claim_lines m (proof_of c) f n c.at)) (
        tt,
        layers_agree {A = A} {B = B} ab {f = everything} {f' = everything} {out = nothing} {out' = nothing} {e = nothing} {e' = nothing}
            (λ s is_state. refl) (λ s is_state. refl) (λ s is_state. refl) bc.nonfair,
      )
      (join_lines ([] ∷ reach_lines b.fair V b.reaches) ([] ∷ reach_lines c.fair W c.reaches)
      (listed_lines m V A (proof_of b) f n b.entries ++ claim_lines m (proof_of b) f n b.at)
      (listed_lines m W B (proof_of c) f n c.entries ++ claim_lines m (proof_of c) f n c.at)
      (tt, reaches_agree {set = b.fair} {set' = c.fair} bc.fair vw bc.reaches)
      (join_lines (listed_lines m V A (proof_of b) f n b.entries) (listed_lines m W B (proof_of c) f n c.entries)
      (claim_lines m (proof_of b) f n b.at) (claim_lines m (proof_of c) f n c.at)
      (listed_agree (proof_of b) (proof_of c) pq V W A B vw ab f n bc.entries)
      (subst (λ (o : Option State). AgreeLines (claim_lines m (proof_of b) f n b.at) (claim_lines m (proof_of c) f n o)) bc.at (claims_agree (proof_of b) (proof_of c) pq f n b.at))))
