-- Modules and programs are read exactly.
use Rattle.std.proofs.Common.{◌≡◌, ℕ, ◌+◌, ◌-◌, ◌≤◌, max, Bool, true, false, ◌⊎◌, inl, inr, List, [], ◌∷◌, ◌++◌, map, length, Option, Some, None, refl, sym, ◌∙◌, ap, subst, arith, append_assoc}
use Rattle.reader_laws.specs.Places as place
use Rattle.reader_laws.specs.Reading.{Reading, ◌>>=◌, accept, both, many, first_is}
use Rattle.reader_laws.specs.Reading.Reading.{found, syntax_error, too_deep}
use Rattle.reader_laws.proofs.Readers.{Reads, EachOf, EachFits, ManyEnds, many_reads}
use Rattle.reader_laws.proofs.More.{Both, BothFit, AnyOf, map_reads, both_reads, all_end, decide_both, decide_each}
use Rattle.reader_laws.proofs.Optional.{OptionFits, OptionEnds, decide_option}
use Rattle.reader_laws.proofs.Mapped.{Makes, all_made, both_made, same_made, found_made, failed_made, deep_reading_made, then_made, syntax_made, deep_made}
use Rattle.reader_laws.proofs.Places as places
use Rattle.reader_laws.proofs.OnePlace as one
use Rattle.smv_lexer.specs.declared.keyword.Keyword.{Keyword}
use Rattle.smv_lexer.specs.declared.sign.Sign.{Sign}
use Rattle.smv_lexer.specs.Text.{Kind, Placed}
use Rattle.smv_lexer.specs.Text.Kind.{key, mark}
use Rattle.smv_parser.specs.Words.{Is, BeginsOn}
use Rattle.smv_parser.specs.Program.{Lined, Section, Module, Program, greatest, section_depth, program_depth}
use Rattle.smv_parser.specs.Programs.{DerivesModule, DerivesName, DerivesProgram, DerivesSection, Each, OnLine, Parameters}
use Rattle.smv_parser.specs.Tests.{is_sign, is_key, key_is, name_of}
use Rattle.smv_parser.specs.Openings.{begins_section, formal_of, is_section, kind_section, key_line}
use Rattle.smv_parser.specs.ProgramReading.{ClosedSection, closed_section, lined, listed, parameters_here, parameters, read_formals, read_module, read_program, read_section}
use Rattle.smv_parser.proofs.TokenTests.{sign_is-kind, kind_is-key}
use Rattle.smv_parser.proofs.Starts.{Settled, line_of_first, module_is_no_section, module_settled, section_settled}
use Rattle.smv_parser.proofs.Parameters.{HereEnds, HereIs, each_from, each_to, here_reads, parameters_from, parameters_to}
use Rattle.smv_parser.proofs.TokenReads.{AnyFits, Free, KeyIs, all_fit, decide_depth, each_within, formal_reads, greatest_within, key_reads, name_reads}
use Rattle.smv_parser.proofs.SectionReads.{SectionEnds, SectionLed, section_at_end, section_begins, section_from, section_goes_on, section_reads, section_settles, section_to}

-- formals and sections, with what could still follow each
abbrev pub Body : Type 0
Body = Option (List (Lined (List ℕ))) × List ClosedSection

abbrev pub ClosedModule : Type 0
ClosedModule = (ℕ × List ℕ) × Body

abbrev pub module_in : ClosedModule → Lined Module
module_in x = lined x.0.0 (record { name = x.0.1; formals = listed x.1.0; sections = map (λ s. s.0) x.1.1 })

abbrev BodyIs : List Placed → Body → Type 0
BodyIs = Both (HereIs (OnLine DerivesName)) (EachOf (AnyOf SectionLed))

abbrev TitleIs : List Placed → ℕ × List ℕ → Type 0
TitleIs = Both (KeyIs Keyword.Module) DerivesName

abbrev pub ModuleIs : List Placed → ClosedModule → Type 0
ModuleIs = Both TitleIs BodyIs

-- no parenthesis may follow a module that has neither formals nor sections
abbrev OpenEnds : Option (List (Lined (List ℕ))) → List ClosedSection → List Placed → Type 0
OpenEnds ps [] r = HereEnds ps r
OpenEnds ps (s ∷ ss) r = Unit {0}

abbrev BodyEnds : Body → List Placed → Type 0
BodyEnds z r = OpenEnds z.0 z.1 r × ManyEnds begins_section SectionEnds z.1 r

body_last : (ps : Option (List (Lined (List ℕ)))) (c : List Placed) (ss : List ClosedSection) (r : List Placed) → EachOf (AnyOf SectionLed) c ss → HereEnds ps (c ++ r)
    → ManyEnds begins_section SectionEnds ss r → BodyEnds (ps, ss) r
body_last ps c [] r d e1 e2 = (subst (λ (l : List Placed). HereEnds ps (l ++ r)) d e1, e2)
body_last ps c (s ∷ ss) r d e1 e2 = (tt, e2)

here_settles : {A : Type 0} (ps : Option (List A)) (t : Placed) (r : List Placed) → Settled t.kind → HereEnds ps (t ∷ r)
here_settles None t r h = h.3
here_settles (Some xs) t r h = tt

body_link : (ps : Option (List (Lined (List ℕ)))) (c : List Placed) (ss : List ClosedSection) (r : List Placed) → EachOf (AnyOf SectionLed) c ss → BodyEnds (ps, ss) r → HereEnds ps (c ++ r)
body_link ps c [] r d e = subst (λ (l : List Placed). HereEnds ps (l ++ r)) (sym d) e.0
body_link ps c (s ∷ ss) r (a, b, q, d, rest) e =
    let w = section_begins a s d in
    let whole : c ++ r ≡ w.0 ∷ ((w.1 ++ b) ++ r) = ap (λ (l : List Placed). l ++ r) (q ∙ ap (λ (l : List Placed). l ++ b) w.2) in
    subst (HereEnds ps) (sym whole) (here_settles ps w.0 ((w.1 ++ b) ++ r) (section_settled w.0.kind w.3))

formal_no_paren : (a : List Placed) (x : Lined (List ℕ)) → OnLine DerivesName a x → (t : Placed) × (u : List Placed) × (a ≡ t ∷ u) × (is_sign Sign.CloseParen t ≡ false)
formal_no_paren a x ((t, q, i), l) = (t, [], q, ap (λ (k : Kind). Rattle.smv_parser.specs.Tests.sign_is Sign.CloseParen k) i)

formals_reads : Reads (HereIs (OnLine DerivesName)) (OptionFits (EachFits AnyFits)) HereEnds (parameters_here (accept formal_of))
formals_reads = here_reads (OnLine DerivesName) AnyFits Free (accept formal_of) formal_reads (λ x r h. tt) (λ x. inl tt) (λ x c r h. tt) formal_no_paren

module _ (b : ℕ) where
  unfoldable pub closed_module : List Placed → Reading Placed ClosedModule
  closed_module s = both (both (accept (key_line Keyword.Module)) (accept name_of)) (both (parameters_here (accept formal_of)) (λ v. many begins_section (closed_section b) (length v) v)) s

  unfoldable pub closed_program : List Placed → Reading Placed (List ClosedModule)
  closed_program s = many (is_key Keyword.Module) closed_module (length s) s

module _ (b : ℕ) (pos : 1 ≤ b) where
  abbrev SectionFits : ClosedSection → Type 0
  SectionFits x = section_depth x.0.form ≤ b

  abbrev pub ModuleFits : ClosedModule → Type 0
  ModuleFits = BothFit (BothFit AnyFits AnyFits) (BothFit (OptionFits (EachFits AnyFits)) (EachFits SectionFits))

  decide_module : (x : ClosedModule) → ModuleFits x ⊎ (ModuleFits x → ⊥)
  decide_module x = decide_both (inl (tt, tt)) (decide_both (decide_option (EachFits AnyFits) (decide_each AnyFits (λ y. inl tt)) x.1.0)
      (decide_each SectionFits (λ y. decide_depth (section_depth y.0.form) b) x.1.1))

  module_reads : Reads ModuleIs ModuleFits (λ x r. BodyEnds x.1 r) (closed_module b)
  unfolding closed_module
  module_reads = both_reads TitleIs (BothFit AnyFits AnyFits) Free (both (accept (key_line Keyword.Module)) (accept name_of))
      (both_reads (KeyIs Keyword.Module) AnyFits Free (accept (key_line Keyword.Module)) (key_reads Keyword.Module) DerivesName AnyFits Free (accept name_of) name_reads
      Free (λ x c y r d e1 e2. tt) (λ x c y r d e. tt) (λ x c y r d e. tt) (λ x. inl tt))
      BodyIs (BothFit (OptionFits (EachFits AnyFits)) (EachFits SectionFits)) BodyEnds (both (parameters_here (accept formal_of)) (λ v. many begins_section (closed_section b) (length v) v))
      (both_reads (HereIs (OnLine DerivesName)) (OptionFits (EachFits AnyFits)) HereEnds (parameters_here (accept formal_of)) formals_reads
      (EachOf (AnyOf SectionLed)) (EachFits SectionFits) (ManyEnds begins_section SectionEnds) (λ v. many begins_section (closed_section b) (length v) v)
      (many_reads begins_section (AnyOf SectionLed) SectionFits SectionEnds (closed_section b) (section_reads b pos) section_begins section_goes_on (λ x. decide_depth (section_depth x.0.form) b))
      BodyEnds body_last body_link (λ x c y r d e. e.1) (decide_option (EachFits AnyFits) (decide_each AnyFits (λ y. inl tt))))
      (λ x r. BodyEnds x.1 r) (λ x c y r d e1 e2. e2) (λ x c y r d e. tt) (λ x c y r d e. e) (λ x. inl (tt, tt))

  module_begins : (ts : List Placed) (x : ClosedModule) → ModuleIs ts x → (t : Placed) × (u : List Placed) × (ts ≡ t ∷ u) × (is_key Keyword.Module t ≡ true)
  module_begins ts x (a, c, q, (m, n, q', (t, q'', i, l), d), rest) =
      (t, n ++ c, q ∙ ap (λ (z : List Placed). z ++ c) (q' ∙ ap (λ (z : List Placed). z ++ n) q''), kind_is-key Keyword.Module t.kind i)

  open_settles : (ps : Option (List (Lined (List ℕ)))) (ss : List ClosedSection) (t : Placed) (r : List Placed) → Settled t.kind → OpenEnds ps ss (t ∷ r)
  open_settles ps [] t r h = here_settles ps t r h
  open_settles ps (s ∷ ss) t r h = tt

  module_goes_on : (x : ClosedModule) (r : List Placed) → first_is (is_key Keyword.Module) r ≡ true → BodyEnds x.1 r
  module_goes_on x [] h = absurd cc
  module_goes_on x (t ∷ r) h =
      let w = module_settled t.kind h in
      (open_settles x.1.0 x.1.1 t r w, (module_is_no_section t.kind h, all_end SectionEnds (t ∷ r) (λ s. section_settles s t r w) x.1.1))

  abbrev ProgramEnds : List ClosedModule → List Placed → Type 0
  ProgramEnds = ManyEnds (is_key Keyword.Module) (λ x r. BodyEnds x.1 r)

  program_reads : Reads (EachOf ModuleIs) (EachFits ModuleFits) ProgramEnds (closed_program b)
  unfolding closed_program
  program_reads = many_reads (is_key Keyword.Module) ModuleIs ModuleFits (λ x r. BodyEnds x.1 r) (closed_module b) module_reads module_begins module_goes_on decide_module

  open_at_end : (ps : Option (List (Lined (List ℕ)))) (ss : List ClosedSection) → OpenEnds ps ss []
  open_at_end None [] = refl
  open_at_end (Some xs) [] = tt
  open_at_end ps (s ∷ ss) = tt

  program_at_end : (ms : List ClosedModule) → ProgramEnds ms []
  program_at_end ms = (refl, all_end (λ x r. BodyEnds x.1 r) [] (λ x. (open_at_end x.1.0 x.1.1, (refl, all_end SectionEnds [] section_at_end x.1.1))) ms)

-- these are the grammar's modules

module_to : (ts : List Placed) (x : ClosedModule) → ModuleIs ts x → OnLine DerivesModule ts (module_in x)
module_to ts x (a, c, q, (m, n, q', (t, q'', i, l), (k, r, j)), (f, g, p, ps, ss)) =
    let whole : ts ≡ t ∷ k ∷ (f ++ g) =
    q ∙ ap (λ (z : List Placed). z ++ c) (q' ∙ ap (λ (z : List Placed). z ++ n) q'' ∙ ap (λ (z : List Placed). t ∷ z) r) ∙ ap (λ (z : List Placed). t ∷ k ∷ z) p in (
      (t, k, f, g, whole, i, j, parameters_to (OnLine DerivesName) f x.1.0 ps, each_to (AnyOf SectionLed) (OnLine DerivesSection) (λ s. s.0) section_to g x.1.1 ss),
      subst (BeginsOn x.0.0) (sym whole) l,
    )

module_from : (ts : List Placed) (y : Lined Module) → OnLine DerivesModule ts y → (x : ClosedModule) × (y ≡ module_in x) × ModuleIs ts x
module_from ts y ((t, k, f, g, q, i, j, ps, ss), begins) =
    let w = parameters_from (OnLine DerivesName) f y.form.formals ps in
    let v = each_from (AnyOf SectionLed) (OnLine DerivesSection) (λ s. s.0) section_from g y.form.sections ss in (
      ((y.line, y.form.name), (w.0, v.0)),
      ap (λ (fs : List (Lined (List ℕ))). lined y.line (record { name = y.form.name; formals = fs; sections = y.form.sections })) w.1
          ∙ ap (λ (xs : List (Lined Section)). lined y.line (record { name = y.form.name; formals = listed w.0; sections = xs })) v.1,
      (
        t ∷ k ∷ [],
        f ++ g,
        q,
        (t ∷ [], k ∷ [], refl, (t, refl, i, line_of_first y.line ts t (k ∷ (f ++ g)) q begins), (k, refl, j)),
        (f, g, refl, w.2, v.2),
      ),
    )

pub program_to : (ts : List Placed) (ms : List ClosedModule) → EachOf ModuleIs ts ms → DerivesProgram ts (map module_in ms)
program_to ts ms d = each_to ModuleIs (OnLine DerivesModule) module_in module_to ts ms d

pub program_from : (ts : List Placed) (p : Program) → DerivesProgram ts p → (ms : List ClosedModule) × (p ≡ map module_in ms) × EachOf ModuleIs ts ms
program_from ts p d = each_from ModuleIs (OnLine DerivesModule) module_in module_from ts p d

module _ (b : ℕ) where
  sections_fit : (ss : List ClosedSection) → EachFits (λ x. section_depth x.0.form ≤ b) ss → greatest (λ s. section_depth s.form) (map (λ s. s.0) ss) ≤ b
  sections_fit [] h = omega arith
  sections_fit (s ∷ ss) h = omega (arith, h.0, sections_fit ss h.1)

  sections_fit' : (ss : List ClosedSection) → greatest (λ s. section_depth s.form) (map (λ s. s.0) ss) ≤ b → EachFits (λ x. section_depth x.0.form ≤ b) ss
  sections_fit' [] h = tt
  sections_fit' (s ∷ ss) h = (omega arith, sections_fit' ss (omega arith))

  formals_fit : (ps : Option (List (Lined (List ℕ)))) → OptionFits (EachFits AnyFits) ps
  formals_fit None = tt
  formals_fit (Some xs) = all_fit AnyFits (λ x. tt) xs

  pub program_fits : (pos : 1 ≤ b) (ms : List ClosedModule) → EachFits (ModuleFits b pos) ms → program_depth (map module_in ms) ≤ b
  program_fits pos [] h = omega arith
  program_fits pos (m ∷ ms) h = omega (arith, sections_fit m.1.1 h.0.1.1, program_fits pos ms h.1)

  pub program_fits' : (pos : 1 ≤ b) (ms : List ClosedModule) → program_depth (map module_in ms) ≤ b → EachFits (ModuleFits b pos) ms
  program_fits' pos [] h = tt
  program_fits' pos (m ∷ ms) h = (((tt, tt), (formals_fit m.1.0, sections_fit' m.1.1 (omega arith))), program_fits' pos ms (omega arith))

-- the code's reader makes the program of what is read

formals_made : Makes listed (parameters_here (accept formal_of)) (parameters (accept formal_of))
unfolding parameters
formals_made s = refl

section_made : (b : ℕ) → Makes (λ x. x.0) (closed_section b) (read_section b)
unfolding read_section
section_made b s = refl

module_made : (b : ℕ) → Makes module_in (closed_module b) (read_module b)
unfolding read_module closed_module read_formals
module_made b s =
    ap (λ (y : Reading Placed ((ℕ × List ℕ) × (List (Lined (List ℕ)) × List (Lined Section)))). y >>= λ x r. found (lined x.0.0 (record { name = x.0.1; formals = x.1.0; sections = x.1.1 })) r)
    (both_made (λ x. x) (λ z. (listed z.0, map (λ s. s.0) z.1)) (both (accept (key_line Keyword.Module)) (accept name_of)) (both (accept (key_line Keyword.Module)) (accept name_of))
    (both (parameters_here (accept formal_of)) (λ v. many begins_section (closed_section b) (length v) v)) (both (parameters (accept formal_of)) (λ v. many begins_section (read_section b) (length v) v))
    (same_made (both (accept (key_line Keyword.Module)) (accept name_of)))
    (both_made listed (map (λ s. s.0)) (parameters_here (accept formal_of)) (parameters (accept formal_of)) (λ v. many begins_section (closed_section b) (length v) v) (λ v. many begins_section (read_section b) (length v) v)
    formals_made (all_made (λ s. s.0) (closed_section b) (read_section b) (section_made b) begins_section)) s)
    ∙ then_made (closed_module b s) (λ z. (z.0, (listed z.1.0, map (λ s. s.0) z.1.1))) (λ x r. found (lined x.0.0 (record { name = x.0.1; formals = x.1.0; sections = x.1.1 })) r)

program_made : (b : ℕ) → Makes (map module_in) (closed_program b) (read_program b)
unfolding read_program closed_program
program_made b = all_made module_in (closed_module b) (read_module b) (module_made b) (is_key Keyword.Module)

-- what reading says of all the tokens
module _ (b : ℕ) (pos : 1 ≤ b) where
  abbrev Fits : Program → Type 0
  Fits p = program_depth p ≤ b

  decide_program : (ms : List ClosedModule) → EachFits (ModuleFits b pos) ms ⊎ (EachFits (ModuleFits b pos) ms → ⊥)
  decide_program = decide_each (ModuleFits b pos) (decide_module b pos)

  pub program_found : (s : List Placed) (p : Program) → DerivesProgram s p → program_depth p ≤ b → read_program b s ≡ found p []
  unfolding ◌>>=◌
  program_found s p d h =
      let w = program_from s p d in
      let r = places.found_whole (EachOf ModuleIs) (EachFits (ModuleFits b pos)) (ProgramEnds b pos) (closed_program b) (program_reads b pos) (program_at_end b pos) decide_program s w.0 w.2
      (program_fits' b pos w.0 (subst Fits w.1 h)) in
      program_made b s ∙ ap (λ (y : Reading Placed (List ClosedModule)). y >>= λ x r. found (map module_in x) r) r ∙ ap (λ (q : Program). found q []) (sym w.1)

  pub program_derived : (s : List Placed) (p : Program) → read_program b s ≡ found p [] → DerivesProgram s p × (program_depth p ≤ b)
  program_derived s p h =
      let w = found_made (map module_in) (closed_program b s) p [] (sym (program_made b s) ∙ h) in
      let r = places.whole_found (EachOf ModuleIs) (EachFits (ModuleFits b pos)) (ProgramEnds b pos) (closed_program b) (program_reads b pos) (program_at_end b pos) decide_program s w.0
      (closed_program b s) ((program_reads b pos).outcome s) w.2 in
      (subst (DerivesProgram s) (sym w.1) (program_to s w.0 r.0), subst Fits (sym w.1) (program_fits b pos w.0 r.1))

  pub program_leftover : (s : List Placed) (p : Program) (t : Placed) (u : List Placed) → read_program b s ≡ found p (t ∷ u) → place.IsSyntaxPlace DerivesProgram Fits s (length s - length (t ∷ u))
  program_leftover s p t u h =
      let w = found_made (map module_in) (closed_program b s) p (t ∷ u) (sym (program_made b s) ∙ h) in
      syntax_made (EachOf ModuleIs) (EachFits (ModuleFits b pos)) DerivesProgram Fits (map module_in) program_to program_from (program_fits b pos) (program_fits' b pos) s (length s - length (t ∷ u))
      (places.leftover (EachOf ModuleIs) (EachFits (ModuleFits b pos)) (ProgramEnds b pos) (closed_program b) (program_reads b pos) (program_at_end b pos) decide_program s w.0 t u
      (closed_program b s) ((program_reads b pos).outcome s) w.2)

  pub program_syntax : (s rest : List Placed) → read_program b s ≡ syntax_error rest → place.IsSyntaxPlace DerivesProgram Fits s (length s - length rest)
  program_syntax s rest h =
      let w = failed_made (map module_in) (closed_program b s) rest (sym (program_made b s) ∙ h) in
      syntax_made (EachOf ModuleIs) (EachFits (ModuleFits b pos)) DerivesProgram Fits (map module_in) program_to program_from (program_fits b pos) (program_fits' b pos) s (length s - length rest)
      (places.syntax_place (EachOf ModuleIs) (EachFits (ModuleFits b pos)) (ProgramEnds b pos) (closed_program b) (program_reads b pos) (program_at_end b pos) decide_program s rest
      (closed_program b s) refl ((program_reads b pos).outcome s) w)

  pub program_deep : (s rest : List Placed) → read_program b s ≡ too_deep rest → place.IsTooDeepPlace DerivesProgram Fits s (length s - length rest)
  program_deep s rest h =
      let w = deep_reading_made (map module_in) (closed_program b s) rest (sym (program_made b s) ∙ h) in
      deep_made (EachOf ModuleIs) (EachFits (ModuleFits b pos)) DerivesProgram Fits (map module_in) program_to program_from (program_fits b pos) (program_fits' b pos) s (length s - length rest)
      (places.deep_place (EachOf ModuleIs) (EachFits (ModuleFits b pos)) (ProgramEnds b pos) (closed_program b) (program_reads b pos) (program_at_end b pos) decide_program s rest
      (closed_program b s) ((program_reads b pos).outcome s) w)

  pub program_short : (s rest : List Placed) → read_program b s ≡ syntax_error rest → length rest ≤ length s
  program_short s rest h =
      let w = failed_made (map module_in) (closed_program b s) rest (sym (program_made b s) ∙ h) in
      places.failed_short (EachOf ModuleIs) (EachFits (ModuleFits b pos)) (ProgramEnds b pos) (λ v z. closed_program b v ≡ z) s rest (closed_program b s) ((program_reads b pos).outcome s) w

  pub program_deep_short : (s rest : List Placed) → read_program b s ≡ too_deep rest → length rest ≤ length s
  program_deep_short s rest h =
      let w = deep_reading_made (map module_in) (closed_program b s) rest (sym (program_made b s) ∙ h) in
      places.deep_short (EachOf ModuleIs) (EachFits (ModuleFits b pos)) (ProgramEnds b pos) (λ v z. closed_program b v ≡ z) s rest (closed_program b s) ((program_reads b pos).outcome s) w
