-- Each operand is read exactly, where its parts are.
use Rattle.std.proofs.Common.{◌≡◌, ℕ, suc, ◌≤◌, ◌<◌, cond, leb, Bool, true, false, ◌⊎◌, List, [], ◌∷◌, ◌++◌, None, refl, sym, ◌∙◌, ap, subst, arith, inl, inr, ⊎_elim}
use Rattle.std.proofs.lemmas.Bool.Decides.{leb_tells}
use Rattle.reader_laws.specs.Reading.{Reading, accept, after_first, headed, enclosed, both, first_is}
use Rattle.reader_laws.proofs.Readers.{Reads, EachOf, EachFits, ManyEnds, many_reads}
use Rattle.reader_laws.proofs.More.{map_reads, accept_reads, IsKnown, Headed, Enclosed, Both, BothFit, headed_reads, enclosed_reads, both_reads, list_reads, AnyOf, Alternative, give_reads, all_end, decide_both, decide_each, no_alternative, tail_alternative, deep_alternative, switch_reads, line_reads}
use Rattle.smv_lexer.specs.declared.keyword.Keyword.{Keyword}
use Rattle.smv_lexer.specs.declared.sign.Sign.{Sign}
use Rattle.smv_lexer.specs.Text.{Kind, Placed}
use Rattle.smv_lexer.specs.Text.Kind.{key, mark}
use Rattle.smv_parser.specs.declared.expressions.BinaryOperator.{BinaryOperator}
use Rattle.smv_parser.specs.declared.expressions.PathQuantifier.{PathQuantifier}
use Rattle.smv_parser.specs.declared.expressions.PrefixOperator.{PrefixOperator}
use Rattle.smv_parser.specs.declared.tokens.Lead.{Lead}
use Rattle.smv_parser.specs.Tree.{Tree, Form, PathTree, path_depth, on_line, path_on, depth, trees_of, trees_depth, arms_depth, parts_depth, Part, field_part, index_part, parts_of, arms_of}
use Rattle.smv_parser.specs.Words.{level_of, prefix_level}
use Rattle.smv_parser.specs.Tests.{is_sign, is_key, sign_is, sign_number, key_number, name_of, lead_of, kind_lead, operator_of, kind_operator}
use Rattle.smv_parser.specs.Grammar.{Derives}
use Rattle.smv_parser.specs.Reading.{text_of, value_of, begins_part, PartLead, dot, bracket, neither, part_lead, leads, is_dot, is_bracket, begins_expression, with_room, part_tail, index_tail, part_by, read_part, read_parts, read_path, front_line, read_others, read_list, read_arm, read_arms, read_until, tail, operand_by, operand}
use Rattle.smv_parser.proofs.TokenTests.{sign_is-kind, key_is-kind}
use Rattle.smv_parser.proofs.Follow.{Follows, Ends, PathEnds, depth_pos, Derives-level}
use Rattle.smv_parser.proofs.Leads.{first_leads}
use Rattle.smv_parser.proofs.Operators.{some_name, some_tree, some_derived}

token : Kind → Placed
token k = record { kind = k; at = 0; end = 0; line = 0 }

-- a token that is no operator and begins no part of a path ends an expression
pub ends_at : (k : ℕ) (e : Tree) (c : Placed) (r : List Placed) → operator_of c ≡ None → begins_part c ≡ false → Ends k e (c ∷ r)
ends_at k e c r h i = (((λ o j. absurd cc), λ z. i), λ o j. absurd cc)

abbrev pub Quiet : Kind → Type 0
Quiet k = (kind_operator k ≡ None) × (cond (sign_is Sign.Dot k) true (sign_is Sign.OpenBracket k) ≡ false)

pub ends_at_sign : (s : Sign) → Quiet (mark s) → (e : Tree) (c : Placed) (r : List Placed) → is_sign s c ≡ true → Ends 1 e (c ∷ r)
ends_at_sign s q e c r h = let w = subst Quiet (sym (sign_is-kind s c.kind h)) q in ends_at 1 e c r w.0 w.1

pub ends_at_key : (s : Keyword) → Quiet (key s) → (e : Tree) (c : Placed) (r : List Placed) → is_key s c ≡ true → Ends 1 e (c ∷ r)
ends_at_key s q e c r h = let w = subst Quiet (sym (key_is-kind s c.kind h)) q in ends_at 1 e c r w.0 w.1

-- the relation of each part and of each operand, after its first token

unfoldable pub PartTail : PartLead → List Placed → Part → Type 0
PartTail dot u p = (n : List ℕ) × (p ≡ field_part n) × IsKnown name_of u n
PartTail bracket u p = (e : Tree) × (p ≡ index_part e) × Enclosed (is_sign Sign.CloseBracket) (Derives false 1) u e
PartTail neither u p = ⊥

abbrev pub PartIs : PartLead → List Placed → Part → Type 0
PartIs i ts p = (t : Placed) × (u : List Placed) × (ts ≡ t ∷ u) × (part_lead t ≡ i) × PartTail i u p

-- a name with the parts that follow it, and the same as a path with its line
abbrev pub NamedIs : List Placed → List ℕ × List Part → Type 0
NamedIs = Both (IsKnown name_of) (EachOf (AnyOf PartIs))

abbrev pub PathIs : List Placed → PathTree → Type 0
PathIs ts p = (x : List ℕ × List Part) × (p ≡ path_on (front_line ts) x.0 (parts_of x.1)) × NamedIs ts x

abbrev pub ListIs : List Placed → Tree × List Tree → Type 0
ListIs = Both (Derives false 1) (EachOf (Headed (is_sign Sign.Comma) (Derives false 1)))

abbrev pub ArmIs : List Placed → Tree × Tree → Type 0
ArmIs = Both (Enclosed (is_sign Sign.Colon) (Derives false 1)) (Enclosed (is_sign Sign.Semicolon) (Derives false 1))

abbrev pub UntilIs : List Placed → Tree × Tree → Type 0
UntilIs = Both (Enclosed (is_key Keyword.Until) (Derives false 1)) (Enclosed (is_sign Sign.CloseBracket) (Derives false 1))

unfoldable pub Tail : Lead → Placed → List Placed → Tree → Type 0
Tail Lead.Name t u e = (ps : List Part) × (e ≡ on_line t.line (Form.path (path_on t.line (text_of t) (parts_of ps)))) × EachOf (AnyOf PartIs) u ps
Tail Lead.Number t u e = (u ≡ []) × (e ≡ on_line t.line (Form.number (value_of t)))
Tail (Lead.Truth v) t u e = (u ≡ []) × (e ≡ on_line t.line (Form.truth v))
Tail Lead.Running t u e = (u ≡ []) × (e ≡ on_line t.line Form.running)
Tail Lead.Next t u e = (x : Tree) × (e ≡ on_line t.line (Form.next x)) × Headed (is_sign Sign.OpenParen) (Enclosed (is_sign Sign.CloseParen) (Derives false 1)) u x
Tail Lead.Parens t u e = (x : Tree) × (e ≡ on_line t.line (Form.parens x)) × Enclosed (is_sign Sign.CloseParen) (Derives false 1) u x
Tail Lead.Braces t u e = (x : Tree × List Tree) × (e ≡ on_line t.line (Form.braces (trees_of (x.0 ∷ x.1)))) × Enclosed (is_sign Sign.CloseBrace) ListIs u x
Tail Lead.Case t u e = (x : (Tree × Tree) × List (Tree × Tree)) × (e ≡ on_line t.line (Form.cases (arms_of (x.0 ∷ x.1)))) × Enclosed (is_key Keyword.Esac) (Both ArmIs (EachOf ArmIs)) u x
Tail (Lead.Until q) t u e = (x : Tree × Tree) × (e ≡ on_line t.line (Form.until q x.0 x.1)) × Headed (is_sign Sign.OpenBracket) UntilIs u x
Tail (Lead.Prefix o) t u e = (x : Tree) × (e ≡ on_line t.line (Form.prefix o x)) × Derives false prefix_level u x
Tail Lead.Other t u e = ⊥

abbrev pub LedBy : Lead → List Placed → Tree → Type 0
LedBy i ts e = (t : Placed) × (u : List Placed) × (ts ≡ t ∷ u) × (lead_of t ≡ i) × Tail i t u e

-- alternatives by their first token, some of which need room
module _ {A I : Type 0} (b : ℕ) (index : Placed → I) (TailOf : I → Placed → List Placed → A → Type 0) (F : A → Type 0) (E : A → List Placed → Type 0) (run : I → List Placed → Reading Placed A)
    (some : (a : List Placed) × (x : A) × AnyOf (λ i ts y. (t : Placed) × (u : List Placed) × (ts ≡ t ∷ u) × (index t ≡ i) × TailOf i t u y) a x × F x) where
  abbrev Led : I → List Placed → A → Type 0
  Led i ts x = (t : Placed) × (u : List Placed) × (ts ≡ t ∷ u) × (index t ≡ i) × TailOf i t u x

  pub open_alternative : (i : I) (tail : Placed → List Placed → Reading Placed A) → ((t : Placed) → Reads (TailOf i t) F E (tail t)) → ((s : List Placed) → run i s ≡ after_first tail s)
      → Alternative index Led F E run i
  open_alternative i tail one is = tail_alternative index Led F E run some i (TailOf i) tail (λ a x d. d) (λ t u x h d. (t, u, refl, h, d)) (λ t h. one t) is

  pub gated_alternative : (i : I) (tail : Placed → List Placed → Reading Placed A) → (1 ≤ b → (t : Placed) → Reads (TailOf i t) F E (tail t))
      → ((t : Placed) (u : List Placed) (x : A) → b ≡ 0 → TailOf i t u x → F x → ⊥) → ((t : Placed) → (m : List Placed) × (x : A) × TailOf i t m x)
      → ((s : List Placed) → run i s ≡ with_room b (after_first tail) s) → Alternative index Led F E run i
  unfolding with_room
  gated_alternative i tail one never any is = ⊎_elim
      (λ p. open_alternative i tail (one p.1) (λ s. is s ∙ (let q = p.0 in rw q refl)))
      (λ p. let none : b ≡ 0 = (let l = p.1 in omega arith) in
      deep_alternative index Led F E run some i (λ a x d. (d.0, d.1, d.2, d.3)) (λ a x d f. never d.0 d.1 x none d.4 f)
      (λ t h. let m = any t in (m.0, m.1, (t, m.0, refl, h, m.2)))
      (λ s. is s ∙ (let q = p.0 in rw q refl)))
      (leb_tells 1 b)

-- a leaf or what ends in a closing bracket may be followed by anything
bracketed : (l : ℕ) (r : List Placed) → Follows (on_line l Form.running) r
bracketed l r = ((λ o i. (tt, λ h z. z)), λ z. absurd z)

comma_not_brace : (c : Placed) → is_sign Sign.CloseBrace c ≡ true → is_sign Sign.Comma c ≡ false
unfolding sign_number
comma_not_brace c h = subst (λ (k : Kind). sign_is Sign.Comma k ≡ false) (sym (sign_is-kind Sign.CloseBrace c.kind h)) refl

esac_leads_nothing : (c : Placed) → is_key Keyword.Esac c ≡ true → begins_expression c ≡ false
esac_leads_nothing c h = subst (λ (k : Kind). leads (kind_lead k) ≡ false) (sym (key_is-kind Keyword.Esac c.kind h)) refl

pub comma_goes_on : (x : Tree) (r : List Placed) → first_is (is_sign Sign.Comma) r ≡ true → Ends 1 x r
unfolding sign_number
comma_goes_on x [] h = absurd cc
comma_goes_on x (c ∷ r) h = ends_at_sign Sign.Comma (refl, refl) x c r h

module _ (reader : ℕ → List Placed → Reading Placed Tree) (b : ℕ) where
  abbrev pub Within : Tree → Type 0
  Within e = depth e ≤ b

  decide : (e : Tree) → (depth e ≤ b) ⊎ (depth e ≤ b → ⊥)
  decide e = by_tests (leb_tells (depth e) b)
    where
      by_tests : ((leb (depth e) b ≡ true) × (depth e ≤ b)) ⊎ ((leb (depth e) b ≡ false) × (b < depth e)) → (depth e ≤ b) ⊎ (depth e ≤ b → ⊥)
      by_tests (inl p) = inl p.1
      by_tests (inr p) = inr (λ h. let q = p.1 in omega arith)

  each_fits : (es : List Tree) → EachFits Within es → trees_depth (trees_of es) ≤ b
  each_fits [] h = omega arith
  each_fits (e ∷ es) h = omega (arith, h.0, each_fits es h.1)

  each_fits' : (es : List Tree) → trees_depth (trees_of es) ≤ b → EachFits Within es
  each_fits' [] h = tt
  each_fits' (e ∷ es) h = (omega arith, each_fits' es (omega arith))

  arms_fit : (xs : List (Tree × Tree)) → EachFits (BothFit Within Within) xs → arms_depth (arms_of xs) ≤ b
  arms_fit [] h = omega arith
  arms_fit (x ∷ xs) h = omega (arith, h.0.0, h.0.1, arms_fit xs h.1)

  arms_fit' : (xs : List (Tree × Tree)) → arms_depth (arms_of xs) ≤ b → EachFits (BothFit Within Within) xs
  arms_fit' [] h = tt
  arms_fit' (x ∷ xs) h = ((omega arith, omega arith), arms_fit' xs (omega arith))

  pub PartFits : Part → Type 0
  PartFits (field_part n) = Unit {0}
  PartFits (index_part e) = depth e ≤ b

  pub decide_part : (p : Part) → PartFits p ⊎ (PartFits p → ⊥)
  unfolding PartFits
  decide_part (field_part n) = inl tt
  decide_part (index_part e) = decide e

  pub parts_fit : (ps : List Part) → EachFits PartFits ps → parts_depth (parts_of ps) ≤ b
  unfolding PartFits
  parts_fit [] h = omega arith
  parts_fit (field_part n ∷ ps) h = parts_fit ps h.1
  parts_fit (index_part e ∷ ps) h = omega (arith, h.0, parts_fit ps h.1)

  pub parts_fit' : (ps : List Part) → parts_depth (parts_of ps) ≤ b → EachFits PartFits ps
  unfolding PartFits
  parts_fit' [] h = tt
  parts_fit' (field_part n ∷ ps) h = (tt, parts_fit' ps h)
  parts_fit' (index_part e ∷ ps) h = (omega arith, parts_fit' ps (omega arith))

  module _ (parts : (k : ℕ) → Reads (Derives false k) (λ e. depth e ≤ b) (Ends k) (reader k)) where
    closed : (s : Sign) (t0 : Placed) → is_sign s t0 ≡ true → Quiet (mark s) → Reads (Enclosed (is_sign s) (Derives false 1)) Within (λ _ _. Unit {0}) (enclosed (is_sign s) (reader 1))
    closed s t0 h q = enclosed_reads (is_sign s) t0 h (Derives false 1) Within (Ends 1) (reader 1) (parts 1) (λ x t r i. ends_at_sign s q x t r i) decide

    closed_until : Reads (Enclosed (is_key Keyword.Until) (Derives false 1)) Within (λ _ _. Unit {0}) (enclosed (is_key Keyword.Until) (reader 1))
    unfolding key_number token
    closed_until = enclosed_reads (is_key Keyword.Until) (token (key Keyword.Until)) refl (Derives false 1) Within (Ends 1) (reader 1) (parts 1) (λ x t r i. ends_at_key Keyword.Until (refl, refl) x t r i) decide

    closed_paren : Reads (Enclosed (is_sign Sign.CloseParen) (Derives false 1)) Within (λ _ _. Unit {0}) (enclosed (is_sign Sign.CloseParen) (reader 1))
    unfolding sign_number token
    closed_paren = closed Sign.CloseParen (token (mark Sign.CloseParen)) refl (refl, refl)

    closed_bracket : Reads (Enclosed (is_sign Sign.CloseBracket) (Derives false 1)) Within (λ _ _. Unit {0}) (enclosed (is_sign Sign.CloseBracket) (reader 1))
    unfolding sign_number token
    closed_bracket = closed Sign.CloseBracket (token (mark Sign.CloseBracket)) refl (refl, refl)

    closed_colon : Reads (Enclosed (is_sign Sign.Colon) (Derives false 1)) Within (λ _ _. Unit {0}) (enclosed (is_sign Sign.Colon) (reader 1))
    unfolding sign_number token
    closed_colon = closed Sign.Colon (token (mark Sign.Colon)) refl (refl, refl)

    closed_semicolon : Reads (Enclosed (is_sign Sign.Semicolon) (Derives false 1)) Within (λ _ _. Unit {0}) (enclosed (is_sign Sign.Semicolon) (reader 1))
    unfolding sign_number token
    closed_semicolon = closed Sign.Semicolon (token (mark Sign.Semicolon)) refl (refl, refl)

    parens_reads : (t : Placed) → Reads (Tail Lead.Parens t) (λ e. depth e ≤ suc b) Follows (tail reader b Lead.Parens t)
    unfolding tail Tail
    parens_reads t = map_reads (Enclosed (is_sign Sign.CloseParen) (Derives false 1)) Within (λ _ _. Unit {0}) (enclosed (is_sign Sign.CloseParen) (reader 1)) closed_paren
        (λ e. on_line t.line (Form.parens e)) (Tail Lead.Parens t) (λ e. depth e ≤ suc b) Follows
        (λ a x d. (x, refl, d)) (λ a y d. d) (λ x h. omega arith) (λ x h. omega arith)
        (λ a x r d e. bracketed 0 r) (λ a x r d e. tt)

    next_reads : (t : Placed) → Reads (Tail Lead.Next t) (λ e. depth e ≤ suc b) Follows (tail reader b Lead.Next t)
    unfolding tail Tail sign_number token
    next_reads t = map_reads (Headed (is_sign Sign.OpenParen) (Enclosed (is_sign Sign.CloseParen) (Derives false 1))) Within (λ _ _. Unit {0})
        (headed (is_sign Sign.OpenParen) (enclosed (is_sign Sign.CloseParen) (reader 1)))
        (headed_reads (is_sign Sign.OpenParen) (token (mark Sign.OpenParen)) refl (Enclosed (is_sign Sign.CloseParen) (Derives false 1)) Within (λ _ _. Unit {0}) (enclosed (is_sign Sign.CloseParen) (reader 1)) closed_paren)
        (λ e. on_line t.line (Form.next e)) (Tail Lead.Next t) (λ e. depth e ≤ suc b) Follows
        (λ a x d. (x, refl, d)) (λ a y d. d) (λ x h. omega arith) (λ x h. omega arith)
        (λ a x r d e. bracketed 0 r) (λ a x r d e. tt)

    until_both : Reads UntilIs (BothFit Within Within) (λ _ _. Unit {0}) (read_until reader b)
    unfolding read_until
    until_both = both_reads (Enclosed (is_key Keyword.Until) (Derives false 1)) Within (λ _ _. Unit {0}) (enclosed (is_key Keyword.Until) (reader 1)) closed_until
        (Enclosed (is_sign Sign.CloseBracket) (Derives false 1)) Within (λ _ _. Unit {0}) (enclosed (is_sign Sign.CloseBracket) (reader 1)) closed_bracket
        (λ _ _. Unit {0}) (λ x b' y r d e1 e2. tt) (λ x b' y r d e. tt) (λ x b' y r d e. tt) decide

    until_reads : (q : PathQuantifier) (t : Placed) → Reads (Tail (Lead.Until q) t) (λ e. depth e ≤ suc b) Follows (tail reader b (Lead.Until q) t)
    unfolding tail Tail sign_number token
    until_reads q t = map_reads (Headed (is_sign Sign.OpenBracket) UntilIs) (BothFit Within Within) (λ _ _. Unit {0}) (headed (is_sign Sign.OpenBracket) (read_until reader b))
        (headed_reads (is_sign Sign.OpenBracket) (token (mark Sign.OpenBracket)) refl UntilIs (BothFit Within Within) (λ _ _. Unit {0}) (read_until reader b) until_both)
        (λ x. on_line t.line (Form.until q x.0 x.1)) (Tail (Lead.Until q) t) (λ e. depth e ≤ suc b) Follows
        (λ a x d. (x, refl, d)) (λ a y d. d) (λ x h. omega (arith, h.0, h.1)) (λ x h. (omega arith, omega arith))
        (λ a x r d e. bracketed 0 r) (λ a x r d e. tt)

    list_of : Reads ListIs (BothFit Within (EachFits Within)) (λ z r. ManyEnds (is_sign Sign.Comma) (Ends 1) (z.0 ∷ z.1) r) (read_list reader b)
    unfolding read_list read_others sign_number token
    list_of = list_reads (is_sign Sign.Comma) (Derives false 1) (reader 1) (Headed (is_sign Sign.Comma) (Derives false 1)) Within (Ends 1) (headed (is_sign Sign.Comma) (reader 1)) (parts 1)
        (headed_reads (is_sign Sign.Comma) (token (mark Sign.Comma)) refl (Derives false 1) Within (Ends 1) (reader 1) (parts 1))
        (λ a x d. (d.0, d.1, d.2, d.3)) comma_goes_on decide

    braces_reads : (t : Placed) → Reads (Tail Lead.Braces t) (λ e. depth e ≤ suc b) Follows (tail reader b Lead.Braces t)
    unfolding tail Tail sign_number token
    braces_reads t = map_reads (Enclosed (is_sign Sign.CloseBrace) ListIs) (BothFit Within (EachFits Within)) (λ _ _. Unit {0}) (enclosed (is_sign Sign.CloseBrace) (read_list reader b))
        (enclosed_reads (is_sign Sign.CloseBrace) (token (mark Sign.CloseBrace)) refl ListIs (BothFit Within (EachFits Within)) (λ z r. ManyEnds (is_sign Sign.Comma) (Ends 1) (z.0 ∷ z.1) r) (read_list reader b) list_of
        (λ x c r h. (comma_not_brace c h, all_end (Ends 1) (c ∷ r) (λ e. ends_at_sign Sign.CloseBrace (refl, refl) e c r h) (x.0 ∷ x.1)))
        (λ x. decide_both (decide x.0) (decide_each Within decide x.1)))
        (λ x. on_line t.line (Form.braces (trees_of (x.0 ∷ x.1)))) (Tail Lead.Braces t) (λ e. depth e ≤ suc b) Follows
        (λ a x d. (x, refl, d)) (λ a y d. d) (λ x h. omega (arith, h.0, each_fits x.1 h.1)) (λ x h. (omega arith, each_fits' x.1 (omega arith)))
        (λ a x r d e. bracketed 0 r) (λ a x r d e. tt)

    arm_reads : Reads ArmIs (BothFit Within Within) (λ _ _. Unit {0}) (read_arm reader b)
    unfolding read_arm
    arm_reads = both_reads (Enclosed (is_sign Sign.Colon) (Derives false 1)) Within (λ _ _. Unit {0}) (enclosed (is_sign Sign.Colon) (reader 1)) closed_colon
        (Enclosed (is_sign Sign.Semicolon) (Derives false 1)) Within (λ _ _. Unit {0}) (enclosed (is_sign Sign.Semicolon) (reader 1)) closed_semicolon
        (λ _ _. Unit {0}) (λ x b' y r d e1 e2. tt) (λ x b' y r d e. tt) (λ x b' y r d e. tt) decide

    arm_begins : (a : List Placed) (x : Tree × Tree) → ArmIs a x → (t : Placed) × (u : List Placed) × (a ≡ t ∷ u) × (begins_expression t ≡ true)
    arm_begins a x (l, r, q, (colon, g, q', h, d), d') =
        let w = first_leads false 1 g x.0 d in
        (w.0, (w.1 ++ colon ∷ []) ++ r, q ∙ ap (λ (z : List Placed). z ++ r) (q' ∙ ap (λ (z : List Placed). z ++ colon ∷ []) w.2), w.3)

    arms_reads : Reads (Both ArmIs (EachOf ArmIs)) (BothFit (BothFit Within Within) (EachFits (BothFit Within Within))) (λ z r. ManyEnds begins_expression (λ _ _. Unit {0}) (z.0 ∷ z.1) r) (both (read_arm reader b) (read_arms reader b))
    unfolding read_arms
    arms_reads = list_reads begins_expression ArmIs (read_arm reader b) ArmIs (BothFit Within Within) (λ _ _. Unit {0}) (read_arm reader b) arm_reads arm_reads
        arm_begins (λ x r h. tt) (λ x. decide_both (decide x.0) (decide x.1))

    case_reads : (t : Placed) → Reads (Tail Lead.Case t) (λ e. depth e ≤ suc b) Follows (tail reader b Lead.Case t)
    unfolding tail Tail key_number token
    case_reads t = map_reads (Enclosed (is_key Keyword.Esac) (Both ArmIs (EachOf ArmIs))) (BothFit (BothFit Within Within) (EachFits (BothFit Within Within))) (λ _ _. Unit {0})
        (enclosed (is_key Keyword.Esac) (both (read_arm reader b) (read_arms reader b)))
        (enclosed_reads (is_key Keyword.Esac) (token (key Keyword.Esac)) refl (Both ArmIs (EachOf ArmIs)) (BothFit (BothFit Within Within) (EachFits (BothFit Within Within)))
        (λ z r. ManyEnds begins_expression (λ _ _. Unit {0}) (z.0 ∷ z.1) r) (both (read_arm reader b) (read_arms reader b)) arms_reads
        (λ x c r h. (esac_leads_nothing c h, all_end (λ _ _. Unit {0}) (c ∷ r) (λ e. tt) (x.0 ∷ x.1)))
        (λ x. decide_both (decide_both (decide x.0.0) (decide x.0.1)) (decide_each (BothFit Within Within) (λ y. decide_both (decide y.0) (decide y.1)) x.1)))
        (λ x. on_line t.line (Form.cases (arms_of (x.0 ∷ x.1)))) (Tail Lead.Case t) (λ e. depth e ≤ suc b) Follows
        (λ a x d. (x, refl, d)) (λ a y d. d) (λ x h. omega (arith, h.0.0, h.0.1, arms_fit x.1 h.1)) (λ x h. ((omega arith, omega arith), arms_fit' x.1 (omega arith)))
        (λ a x r d e. bracketed 0 r) (λ a x r d e. tt)

    prefix_reads : (o : PrefixOperator) (t : Placed) → Reads (Tail (Lead.Prefix o) t) (λ e. depth e ≤ suc b) Follows (tail reader b (Lead.Prefix o) t)
    unfolding tail Tail
    prefix_reads o t = map_reads (Derives false prefix_level) Within (Ends prefix_level) (reader prefix_level) (parts prefix_level)
        (λ e. on_line t.line (Form.prefix o e)) (Tail (Lead.Prefix o) t) (λ e. depth e ≤ suc b) Follows
        (λ a x d. (x, refl, d)) (λ a y d. d) (λ x h. omega arith) (λ x h. omega arith)
        (λ a x r d e. ((λ p i. (tt, λ h z. let w = e.1 p i in absurd (omega arith))), e.0.1))
        (λ a x r d e. (((λ p i. let w = low p (e.0 p i).1 in (Derives-level false prefix_level (level_of p) a x (omega arith) d, λ h z. absurd (omega arith))), e.1), λ p i. low p (e.0 p i).1))
      where
        low : (p : BinaryOperator) → (prefix_level ≤ level_of p → Unit {0} → ⊥) → level_of p < prefix_level
        low p h = ⊎_elim (λ q. absurd (h q.1 tt)) (λ q. q.1) (leb_tells prefix_level (level_of p))

-- tokens that complete what is begun

abbrev pub sign_token : Sign → Placed
sign_token s = record { kind = mark s; at = 0; end = 0; line = 0 }

abbrev pub key_token : Keyword → Placed
key_token k = record { kind = key k; at = 0; end = 0; line = 0 }

lead_begins : (x y : Bool) (i : PartLead) (u : List Placed) (p : Part) → cond x dot (cond y bracket neither) ≡ i → PartTail i u p → cond x true y ≡ true
unfolding PartTail
lead_begins true y i u p h d = refl
lead_begins false true i u p h d = refl
lead_begins false false i u p h d = absurd (subst (λ (j : PartLead). PartTail j u p) (sym h) d)

part_begins : (a : List Placed) (p : Part) → AnyOf PartIs a p → (t : Placed) × (u : List Placed) × (a ≡ t ∷ u) × (begins_part t ≡ true)
part_begins a p (i, (t, u, q, h, d)) = (t, u, q, lead_begins (is_dot t) (is_bracket t) i u p h d)

some_part : AnyOf PartIs (sign_token Sign.Dot ∷ some_name ∷ []) (field_part [])
unfolding PartTail sign_number
some_part = (dot, (sign_token Sign.Dot, some_name ∷ [], refl, refl, ([], refl, (some_name, refl, refl))))

module _ (reader : ℕ → List Placed → Reading Placed Tree) (b : ℕ) (parts : 1 ≤ b → (k : ℕ) → Reads (Derives false k) (λ e. depth e ≤ b) (Ends k) (reader k)) where
  dot_reads : Reads (PartTail dot) (PartFits reader b) (λ _ _. Unit {0}) (part_tail reader b)
  unfolding part_tail PartTail PartFits
  dot_reads = map_reads (IsKnown name_of) (λ _. Unit {0}) (λ _ _. Unit {0}) (accept name_of) (accept_reads name_of some_name [] refl)
      field_part (PartTail dot) (PartFits reader b) (λ _ _. Unit {0})
      (λ a n d. (n, refl, d)) (λ a p d. d) (λ n h. tt) (λ n h. tt) (λ a n r d e. tt) (λ a n r d e. tt)

  index_reads : 1 ≤ b → Reads (PartTail bracket) (PartFits reader b) (λ _ _. Unit {0}) (index_tail reader b)
  unfolding index_tail PartTail PartFits
  index_reads pos = map_reads (Enclosed (is_sign Sign.CloseBracket) (Derives false 1)) (Within reader b) (λ _ _. Unit {0}) (enclosed (is_sign Sign.CloseBracket) (reader 1)) (closed_bracket reader b (parts pos))
      index_part (PartTail bracket) (PartFits reader b) (λ _ _. Unit {0})
      (λ a x d. (x, refl, d)) (λ a p d. d) (λ x h. h) (λ x h. h) (λ a x r d e. tt) (λ a x r d e. tt)

  never_index : (u : List Placed) (p : Part) → b ≡ 0 → PartTail bracket u p → PartFits reader b p → ⊥
  unfolding PartTail PartFits
  never_index u p z (e, q, d) f = let g = subst (PartFits reader b) q f in omega (arith, z, g, depth_pos e)

  any_index : (t : Placed) → (m : List Placed) × (p : Part) × PartTail bracket m p
  unfolding PartTail sign_number
  any_index t = (some_name ∷ sign_token Sign.CloseBracket ∷ [], index_part some_tree, (some_tree, refl, (sign_token Sign.CloseBracket, some_name ∷ [], refl, refl, some_derived 1)))

  part_alternative : (i : PartLead) → Alternative part_lead PartIs (PartFits reader b) (λ _ _. Unit {0}) (part_by reader b) i
  unfolding part_by PartTail PartFits
  part_alternative dot = open_alternative b part_lead (λ i t. PartTail i) (PartFits reader b) (λ _ _. Unit {0}) (part_by reader b) (sign_token Sign.Dot ∷ some_name ∷ [], field_part [], some_part, tt)
      dot (λ _. part_tail reader b) (λ t. dot_reads) (λ s. refl)
  part_alternative bracket = gated_alternative b part_lead (λ i t. PartTail i) (PartFits reader b) (λ _ _. Unit {0}) (part_by reader b) (sign_token Sign.Dot ∷ some_name ∷ [], field_part [], some_part, tt)
      bracket (λ _. index_tail reader b) (λ pos t. index_reads pos) (λ t u p z d f. never_index u p z d f) any_index (λ s. refl)
  part_alternative neither = no_alternative part_lead PartIs (PartFits reader b) (λ _ _. Unit {0}) (part_by reader b) (sign_token Sign.Dot ∷ some_name ∷ [], field_part [], some_part, tt)
      neither (λ a x d. d.4) (λ s. refl)

  part_reads : Reads (AnyOf PartIs) (PartFits reader b) (λ _ _. Unit {0}) (read_part reader b)
  unfolding read_part PartFits
  part_reads = switch_reads part_lead PartIs (PartFits reader b) (λ _ _. Unit {0}) (part_by reader b) (sign_token Sign.Dot ∷ some_name ∷ [], field_part [], some_part, tt) part_alternative

  parts_reads : Reads (EachOf (AnyOf PartIs)) (EachFits (PartFits reader b)) (ManyEnds begins_part (λ _ _. Unit {0})) (read_parts reader b)
  unfolding read_parts
  parts_reads = many_reads begins_part (AnyOf PartIs) (PartFits reader b) (λ _ _. Unit {0}) (read_part reader b) part_reads part_begins (λ x r h. tt) (decide_part reader b)

  name_reads : (t : Placed) → Reads (Tail Lead.Name t) (λ e. depth e ≤ suc b) Follows (tail reader b Lead.Name t)
  unfolding tail Tail
  name_reads t = map_reads (EachOf (AnyOf PartIs)) (EachFits (PartFits reader b)) (ManyEnds begins_part (λ _ _. Unit {0})) (read_parts reader b) parts_reads
      (λ ps. on_line t.line (Form.path (path_on t.line (text_of t) (parts_of ps)))) (Tail Lead.Name t) (λ e. depth e ≤ suc b) Follows
      (λ a ps d. (ps, refl, d)) (λ a y d. d) (λ ps h. omega (arith, parts_fit reader b ps h)) (λ ps h. parts_fit' reader b ps (omega arith))
      (λ a ps r d e. ((λ o i. (tt, λ h z. z)), λ z. e.0)) (λ a ps r d e. (e.1 tt, all_end (λ _ _. Unit {0}) r (λ x. tt) ps))

  named_reads : Reads NamedIs (BothFit (λ _. Unit {0}) (EachFits (PartFits reader b))) (λ z r. ManyEnds begins_part (λ _ _. Unit {0}) z.1 r) (both (accept name_of) (read_parts reader b))
  named_reads = both_reads (IsKnown name_of) (λ _. Unit {0}) (λ _ _. Unit {0}) (accept name_of) (accept_reads name_of some_name [] refl)
      (EachOf (AnyOf PartIs)) (EachFits (PartFits reader b)) (ManyEnds begins_part (λ _ _. Unit {0})) (read_parts reader b) parts_reads
      (λ z r. ManyEnds begins_part (λ _ _. Unit {0}) z.1 r) (λ x b' y r d e1 e2. e2) (λ x b' y r d e. tt) (λ x b' y r d e. e) (λ x. inl tt)

  named_begins : (a : List Placed) (x : List ℕ × List Part) → NamedIs a x → (t : Placed) × (u : List Placed) × (a ≡ t ∷ u)
  named_begins a x (y, z, q, (t, r, k), d) = (t, z, q ∙ ap (λ (l : List Placed). l ++ z) r)

  -- a path is read exactly
  pub path_reads : Reads PathIs (λ p. path_depth p ≤ suc b) PathEnds (read_path reader b)
  unfolding read_path
  path_reads = line_reads (λ t. t.line) NamedIs (BothFit (λ _. Unit {0}) (EachFits (PartFits reader b))) (λ z r. ManyEnds begins_part (λ _ _. Unit {0}) z.1 r) (both (accept name_of) (read_parts reader b)) named_reads named_begins
      (λ l z. path_on l z.0 (parts_of z.1)) (λ p. path_depth p ≤ suc b) PathEnds
      (λ l x h. omega (arith, parts_fit reader b x.1 h.1)) (λ l x h. (tt, parts_fit' reader b x.1 (omega arith)))
      (λ l x r e. e.0) (λ l x r e. (e, all_end (λ _ _. Unit {0}) r (λ y. tt) x.1))

  number_reads : (t : Placed) → Reads (Tail Lead.Number t) (λ e. depth e ≤ suc b) Follows (tail reader b Lead.Number t)
  unfolding tail Tail
  number_reads t = give_reads (on_line t.line (Form.number (value_of t))) (λ e. depth e ≤ suc b) Follows (omega arith) (λ r. bracketed 0 r)

  truth_reads : (v : Bool) (t : Placed) → Reads (Tail (Lead.Truth v) t) (λ e. depth e ≤ suc b) Follows (tail reader b (Lead.Truth v) t)
  unfolding tail Tail
  truth_reads v t = give_reads (on_line t.line (Form.truth v)) (λ e. depth e ≤ suc b) Follows (omega arith) (λ r. bracketed 0 r)

  running_reads : (t : Placed) → Reads (Tail Lead.Running t) (λ e. depth e ≤ suc b) Follows (tail reader b Lead.Running t)
  unfolding tail Tail
  running_reads t = give_reads (on_line t.line Form.running) (λ e. depth e ≤ suc b) Follows (omega arith) (λ r. bracketed 0 r)

  -- an operand that opens something has at least depth 2
  never_parens : (t : Placed) (u : List Placed) (e : Tree) → b ≡ 0 → Tail Lead.Parens t u e → depth e ≤ suc b → ⊥
  unfolding Tail
  never_parens t u e z (x, q, d) f = let g = subst (λ (y : Tree). depth y ≤ suc b) q f in omega (arith, z, g, depth_pos x)

  never_next : (t : Placed) (u : List Placed) (e : Tree) → b ≡ 0 → Tail Lead.Next t u e → depth e ≤ suc b → ⊥
  unfolding Tail
  never_next t u e z (x, q, d) f = let g = subst (λ (y : Tree). depth y ≤ suc b) q f in omega (arith, z, g, depth_pos x)

  never_prefix : (o : PrefixOperator) (t : Placed) (u : List Placed) (e : Tree) → b ≡ 0 → Tail (Lead.Prefix o) t u e → depth e ≤ suc b → ⊥
  unfolding Tail
  never_prefix o t u e z (x, q, d) f = let g = subst (λ (y : Tree). depth y ≤ suc b) q f in omega (arith, z, g, depth_pos x)

  never_until : (w : PathQuantifier) (t : Placed) (u : List Placed) (e : Tree) → b ≡ 0 → Tail (Lead.Until w) t u e → depth e ≤ suc b → ⊥
  unfolding Tail
  never_until w t u e z (x, q, d) f = let g = subst (λ (y : Tree). depth y ≤ suc b) q f in omega (arith, z, g, depth_pos x.0)

  never_braces : (t : Placed) (u : List Placed) (e : Tree) → b ≡ 0 → Tail Lead.Braces t u e → depth e ≤ suc b → ⊥
  unfolding Tail
  never_braces t u e z (x, q, d) f = let g = subst (λ (y : Tree). depth y ≤ suc b) q f in omega (arith, z, g, depth_pos x.0)

  never_case : (t : Placed) (u : List Placed) (e : Tree) → b ≡ 0 → Tail Lead.Case t u e → depth e ≤ suc b → ⊥
  unfolding Tail
  never_case t u e z (x, q, d) f = let g = subst (λ (y : Tree). depth y ≤ suc b) q f in omega (arith, z, g, depth_pos x.0.0)

  some_operand : AnyOf LedBy (some_name ∷ []) some_tree
  unfolding Tail
  some_operand = (Lead.Name, (some_name, [], refl, refl, ([], refl, refl)))

  abbrev OperandAlternative : Lead → Type 0
  OperandAlternative = Alternative lead_of LedBy (λ e. depth e ≤ suc b) Follows (operand_by reader b)

  open_operand : (i : Lead) → ((t : Placed) → Reads (Tail i t) (λ e. depth e ≤ suc b) Follows (tail reader b i t))
      → ((s : List Placed) → operand_by reader b i s ≡ after_first (tail reader b i) s) → OperandAlternative i
  open_operand i one is = open_alternative b lead_of Tail (λ e. depth e ≤ suc b) Follows (operand_by reader b) (some_name ∷ [], some_tree, some_operand, omega arith) i (tail reader b i) one is

  gated_operand : (i : Lead) → (1 ≤ b → (t : Placed) → Reads (Tail i t) (λ e. depth e ≤ suc b) Follows (tail reader b i t))
      → ((t : Placed) (u : List Placed) (e : Tree) → b ≡ 0 → Tail i t u e → depth e ≤ suc b → ⊥) → ((t : Placed) → (m : List Placed) × (e : Tree) × Tail i t m e)
      → ((s : List Placed) → operand_by reader b i s ≡ with_room b (after_first (tail reader b i)) s) → OperandAlternative i
  gated_operand i one never any is = gated_alternative b lead_of Tail (λ e. depth e ≤ suc b) Follows (operand_by reader b) (some_name ∷ [], some_tree, some_operand, omega arith) i (tail reader b i) one never any is

  some_arm : ArmIs (some_name ∷ sign_token Sign.Colon ∷ some_name ∷ sign_token Sign.Semicolon ∷ []) (some_tree, some_tree)
  unfolding sign_number
  some_arm = (
    some_name ∷ sign_token Sign.Colon ∷ [],
    some_name ∷ sign_token Sign.Semicolon ∷ [],
    refl,
    (sign_token Sign.Colon, some_name ∷ [], refl, refl, some_derived 1),
    (sign_token Sign.Semicolon, some_name ∷ [], refl, refl, some_derived 1),
  )

  operand_alternative : (i : Lead) → OperandAlternative i
  unfolding operand_by Tail sign_number key_number
  operand_alternative Lead.Name = open_operand Lead.Name name_reads (λ s. refl)
  operand_alternative Lead.Number = open_operand Lead.Number number_reads (λ s. refl)
  operand_alternative (Lead.Truth v) = open_operand (Lead.Truth v) (truth_reads v) (λ s. refl)
  operand_alternative Lead.Running = open_operand Lead.Running running_reads (λ s. refl)
  operand_alternative Lead.Next = gated_operand Lead.Next (λ pos. next_reads reader b (parts pos)) never_next
      (λ t. (
        sign_token Sign.OpenParen ∷ some_name ∷ sign_token Sign.CloseParen ∷ [],
        on_line t.line (Form.next some_tree),
        (some_tree, refl, (sign_token Sign.OpenParen, some_name ∷ sign_token Sign.CloseParen ∷ [], refl, refl, (sign_token Sign.CloseParen, some_name ∷ [], refl, refl, some_derived 1))),
      ))
      (λ s. refl)
  operand_alternative Lead.Parens = gated_operand Lead.Parens (λ pos. parens_reads reader b (parts pos)) never_parens
      (λ t. (some_name ∷ sign_token Sign.CloseParen ∷ [], on_line t.line (Form.parens some_tree), (some_tree, refl, (sign_token Sign.CloseParen, some_name ∷ [], refl, refl, some_derived 1))))
      (λ s. refl)
  operand_alternative Lead.Braces = gated_operand Lead.Braces (λ pos. braces_reads reader b (parts pos)) never_braces
      (λ t. (
        some_name ∷ sign_token Sign.CloseBrace ∷ [],
        on_line t.line (Form.braces (trees_of (some_tree ∷ []))),
        ((some_tree, []), refl, (sign_token Sign.CloseBrace, some_name ∷ [], refl, refl, (some_name ∷ [], [], refl, some_derived 1, refl))),
      ))
      (λ s. refl)
  operand_alternative Lead.Case = gated_operand Lead.Case (λ pos. case_reads reader b (parts pos)) never_case
      (λ t. (
        some_name ∷ sign_token Sign.Colon ∷ some_name ∷ sign_token Sign.Semicolon ∷ key_token Keyword.Esac ∷ [],
        on_line t.line (Form.cases (arms_of ((some_tree, some_tree) ∷ []))),
        (
          ((some_tree, some_tree), []),
          refl,
          (
            key_token Keyword.Esac,
            some_name ∷ sign_token Sign.Colon ∷ some_name ∷ sign_token Sign.Semicolon ∷ [],
            refl,
            refl,
            (some_name ∷ sign_token Sign.Colon ∷ some_name ∷ sign_token Sign.Semicolon ∷ [], [], refl, some_arm, refl),
          ),
        ),
      ))
      (λ s. refl)
  operand_alternative (Lead.Until q) = gated_operand (Lead.Until q) (λ pos. until_reads reader b (parts pos) q) (never_until q)
      (λ t. (
        sign_token Sign.OpenBracket ∷ some_name ∷ key_token Keyword.Until ∷ some_name ∷ sign_token Sign.CloseBracket ∷ [],
        on_line t.line (Form.until q some_tree some_tree),
        (
          (some_tree, some_tree),
          refl,
          (
            sign_token Sign.OpenBracket,
            some_name ∷ key_token Keyword.Until ∷ some_name ∷ sign_token Sign.CloseBracket ∷ [],
            refl,
            refl,
            (some_name ∷ key_token Keyword.Until ∷ [], some_name ∷ sign_token Sign.CloseBracket ∷ [], refl, (key_token Keyword.Until, some_name ∷ [], refl, refl, some_derived 1), (sign_token Sign.CloseBracket, some_name ∷ [], refl, refl, some_derived 1)),
          ),
        ),
      ))
      (λ s. refl)
  operand_alternative (Lead.Prefix o) = gated_operand (Lead.Prefix o) (λ pos. prefix_reads reader b (parts pos) o) (never_prefix o)
      (λ t. (some_name ∷ [], on_line t.line (Form.prefix o some_tree), (some_tree, refl, some_derived prefix_level)))
      (λ s. refl)
  operand_alternative Lead.Other = no_alternative lead_of LedBy (λ e. depth e ≤ suc b) Follows (operand_by reader b) (some_name ∷ [], some_tree, some_operand, omega arith)
      Lead.Other (λ a x d. d.4) (λ s. refl)

  pub led_reads : Reads (AnyOf LedBy) (λ e. depth e ≤ suc b) Follows (operand reader b)
  unfolding operand
  led_reads = switch_reads lead_of LedBy (λ e. depth e ≤ suc b) Follows (operand_by reader b) (some_name ∷ [], some_tree, some_operand, omega arith) operand_alternative
