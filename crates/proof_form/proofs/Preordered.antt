-- The nodes of a formula in a list, from those of its parts.
use Rattle.std.proofs.Common.{◌≡◌, ℕ, zero, suc, ◌+◌, ◌-◌, ◌<◌, List, [], ◌∷◌, ◌++◌, length, map, get_or, Some, refl, sym, ◌∙◌, ap, arith, length-append, append_assoc}
use Rattle.kripke_model.specs.Ctl.{Ctl}
use Rattle.kripke_model.specs.Signs.{node_count}
use Rattle.proof_form.specs.declared.preorder.Unary.{Unary}
use Rattle.proof_form.specs.declared.preorder.Unary.TheVariants as unary
use Rattle.proof_form.specs.declared.preorder.Binary.{Binary}
use Rattle.proof_form.specs.declared.preorder.Binary.TheVariants as binary
use Rattle.std.proofs.lemmas.List.{length-map}
use Rattle.fair_rules.specs.Nodes.{node_at as node_of}
use Rattle.fair_rules.proofs.Nodes.{parts}
use Rattle.proof_form.specs.declared.preorder.Node.{Node}
use Rattle.proof_form.specs.Preorder.{NodeView, one_of, two_of, node_view, node_views, nodes_from}
use Rattle.proof_form.proofs.NodeLists.{joined, one_each, at_node}

map-append : {A B : Type 0} (f : A → B) (xs ys : List A) → map f (xs ++ ys) ≡ map f xs ++ map f ys
map-append f [] ys = refl
map-append f (x ∷ xs) ys = ap (λ zs. f x ∷ zs) (map-append f xs ys)

pub one_count : (kind : Unary) (f : Ctl) → node_count (one_of kind f) ≡ 1 + node_count f
one_count unary.Not f = refl
one_count (unary.Quantified op) f = refl

pub two_count : (kind : Binary) (f g : Ctl) → node_count (two_of kind f g) ≡ 1 + node_count f + node_count g
two_count binary.And f g = refl
two_count binary.Or f g = refl
two_count binary.Implies f g = refl
two_count binary.Iff f g = refl
two_count (binary.Until all) f g = refl

pub two_nodes : (kind : Binary) (f g : Ctl) (b : ℕ)
    → nodes_from (two_of kind f g) b ≡ nodes_from g b ++ (nodes_from f (b + node_count g) ++ (NodeView.Two kind (b + node_count g - 1) ∷ []))
two_nodes binary.And f g b = refl
two_nodes binary.Or f g b = refl
two_nodes binary.Implies f g b = refl
two_nodes binary.Iff f g b = refl
two_nodes (binary.Until all) f g b = refl

-- a node's own place, in a list with so many in front of those of its parts
abbrev pub own_view : Ctl → ℕ → NodeView
own_view (Ctl.Leaf e) b = NodeView.Leaf e
own_view (Ctl.Not f) b = NodeView.One unary.Not
own_view (Ctl.And f g) b = NodeView.Two binary.And (b + node_count g - 1)
own_view (Ctl.Or f g) b = NodeView.Two binary.Or (b + node_count g - 1)
own_view (Ctl.Implies f g) b = NodeView.Two binary.Implies (b + node_count g - 1)
own_view (Ctl.Iff f g) b = NodeView.Two binary.Iff (b + node_count g - 1)
own_view (Ctl.Quant op f) b = NodeView.One (unary.Quantified op)
own_view (Ctl.Until all f g) b = NodeView.Two (binary.Until all) (b + node_count g - 1)

abbrev views_of : Ctl → ℕ → ℕ → List NodeView
views_of f n b = nodes_from f b

by_views : (d : NodeView) (c : Ctl) (n b : ℕ) → nodes_from c b ≡ joined d views_of (λ c n b. own_view c b) (parts c) n b (own_view c b ∷ [])
by_views d (Ctl.Leaf e) n b = refl
by_views d (Ctl.Not f) n b = refl
by_views d (Ctl.And f g) n b = refl
by_views d (Ctl.Or f g) n b = refl
by_views d (Ctl.Implies f g) n b = refl
by_views d (Ctl.Iff f g) n b = refl
by_views d (Ctl.Quant op f) n b = refl
by_views d (Ctl.Until all f g) n b = refl

-- there is one for each
pub nodes_length : (f : Ctl) (b : ℕ) → length (nodes_from f b) ≡ node_count f
nodes_length f b = one_each nothing_there views_of (λ c n b. own_view c b) (by_views nothing_there) f 0 b
  where
    nothing_there : NodeView
    nothing_there = NodeView.One unary.Not

-- node i at its place
pub view_there : (f : Ctl) (i k : ℕ) (d : NodeView) (c : Ctl) → node_of f 1 i ≡ Some c → k + i ≡ node_count f → get_or (nodes_from f 0) k d ≡ own_view c (k + 1 - node_count c)
view_there f i k d c at e = at_node d views_of (λ c n b. own_view c b) (by_views d) f 1 0 i k c at (omega (arith, e)) ∙ ap (own_view c) (omega arith)

pub one_smaller : (kind : Unary) (f c : Ctl) → c ≡ one_of kind f → node_count f < node_count c
one_smaller kind f c is = omega (arith, ap node_count is, one_count kind f)

pub first_smaller : (kind : Binary) (f g c : Ctl) → c ≡ two_of kind f g → node_count f < node_count c
first_smaller kind f g c is = omega (arith, ap node_count is, two_count kind f g)

pub last_smaller : (kind : Binary) (f g c : Ctl) → c ≡ two_of kind f g → node_count g < node_count c
last_smaller kind f g c is = omega (arith, ap node_count is, two_count kind f g)

-- the list that the nodes were added to
pub longer : (f : Ctl) (old new : List Node) → node_views new ≡ node_views old ++ nodes_from f (length old) → length new ≡ length old + node_count f
longer f old new is = omega (arith, length-map new node_view, length-map old node_view, ap length is, length-append (node_views old) (nodes_from f (length old)), nodes_length f (length old))

pub two_added : (kind : Binary) (f g c : Ctl) (n0 n1 n2 n3 : List Node) (node : Node) (last : ℕ) → c ≡ two_of kind f g
    → node_views n1 ≡ node_views n0 ++ nodes_from g (length n0) → node_views n2 ≡ node_views n1 ++ nodes_from f (length n1)
    → n3 ≡ n2 ++ node ∷ [] → node_view node ≡ NodeView.Two kind last → last + 1 ≡ length n1
    → node_views n3 ≡ node_views n0 ++ nodes_from c (length n0)
two_added kind f g c n0 n1 n2 n3 node last is p q items view place =
    let b : ℕ = length n0 + node_count g in
    let size : length n1 ≡ b = longer g n0 n1 p in
    let at : last ≡ b - 1 = omega (arith, place, size) in
    let own : List NodeView = NodeView.Two kind (b - 1) ∷ [] in
    ap node_views items
    ∙ map-append node_view n2 (node ∷ [])
    ∙ ap (λ v. node_views n2 ++ (v ∷ [])) (view ∙ ap (NodeView.Two kind) at)
    ∙ ap (λ vs. vs ++ own) (q ∙ ap (λ k. node_views n1 ++ nodes_from f k) size ∙ ap (λ vs. vs ++ nodes_from f b) p)
    ∙ append_assoc (node_views n0 ++ nodes_from g (length n0)) (nodes_from f b) own
    ∙ append_assoc (node_views n0) (nodes_from g (length n0)) (nodes_from f b ++ own)
    ∙ ap (λ vs. node_views n0 ++ vs) (sym (two_nodes kind f g (length n0)) ∙ ap (λ x. nodes_from x (length n0)) (sym is))

-- a node at its place
pub node_at : (nodes : List Node) (k : ℕ) (x : Node) → k < length nodes → x ≡ get_or nodes k x → (d : NodeView) → node_view x ≡ get_or (node_views nodes) k d
node_at [] k x lt is d = absurd (omega (arith, lt))
node_at (n ∷ nodes) zero x lt is d = ap node_view is
node_at (n ∷ nodes) (suc k) x lt is d = node_at nodes k x (omega (arith, lt)) is d
