-- What is answered to blocks, one after the other.
use Rattle.std.proofs.Common.{◌≡◌, ◌∙◌, ℕ, ◌+◌, List, [], ◌∷◌, ◌++◌, length, map, Bool, true, false, cond, sym, ap, subst, arith, length-append}
use Rattle.std.specs.Prelude.{All, count_by}
use Rattle.std.proofs.lemmas.List.{map-append}
use Rattle.std.proofs.lemmas.List.Elements.{All-nil, All-cons, All-append}
use Rattle.std.proofs.lemmas.List.Sums.{sum_by_push}
use Rattle.bdd_nodes.specs.declared.refusal.Held.{Held}
use Rattle.kripke_model.specs.System.{System}
use Rattle.command_replies.specs.Answered.{AreAnswered, answer_of}
use Rattle.command_replies.specs.Answers as plain
use Rattle.command_replies.specs.Answers.{AreAnswers, IsAnswer}
use Rattle.command_replies.specs.ProofReport.{is_unanswered}
use Rattle.command_replies.specs.declared.answers.Answer.{Answer}
use Rattle.command_replies.specs.declared.answers.Answers.{Answers}
use Rattle.proof_text.specs.File.{Block}
use Rattle.smv_texts.specs.Evidence.{IsOfLimit}

module _ (m : System) (limit : ℕ) (order : List ℕ) where
  answers_push : (blocks : List Block) (answers : List plain.Answer) (b : Block) (a : plain.Answer)
      → AreAnswers m limit order blocks answers → IsAnswer m limit order b a
      → AreAnswers m limit order (blocks ++ b ∷ []) (answers ++ a ∷ [])
  answers_push [] [] b a each one = (one, tt)
  answers_push (d ∷ blocks) (e ∷ answers) b a each one =
      (each.0, answers_push blocks answers b a each.1 one)
  answers_push [] (e ∷ answers) b a each one = absurd each
  answers_push (d ∷ blocks) [] b a each one = absurd each

module _ (m : System) (limit : ℕ) (order : List ℕ) (blocks : List Block) (b : Block) (a : Answer)
    (old new : Answers) (all : AreAnswered m limit order blocks old)
    (more : new.answers.items ≡ old.answers.items ++ a ∷ []) where
  answers_more : map answer_of new.answers.items
      ≡ map answer_of old.answers.items ++ answer_of a ∷ []
  answers_more = ap (map answer_of) more ∙ map-append answer_of old.answers.items (a ∷ [])

  each_more : IsAnswer m limit order b (answer_of a)
      → AreAnswers m limit order (blocks ++ b ∷ []) (map answer_of new.answers.items)
  each_more is =
      let before = map answer_of old.answers.items in
      subst (AreAnswers m limit order (blocks ++ b ∷ [])) (sym answers_more)
      (answers_push m limit order blocks before b (answer_of a) all.each is)

  count_more : (left : Bool) → is_unanswered (answer_of a) ≡ left
      → count_by is_unanswered (map answer_of new.answers.items)
      ≡ count_by is_unanswered (map answer_of old.answers.items) + cond left 1 0
  count_more left e =
      let before = map answer_of old.answers.items in
      ap (count_by is_unanswered) answers_more
      ∙ sum_by_push (λ x. cond (is_unanswered x) 1 0) before (answer_of a)
      ∙ ap (λ (x : Bool). count_by is_unanswered before + cond x 1 0) e

  -- a block that is accepted or rejected has no full store
  pub decided_more : IsAnswer m limit order b (answer_of a) → is_unanswered (answer_of a) ≡ false
      → new.held.items ≡ old.held.items → AreAnswered m limit order (blocks ++ b ∷ []) new
  decided_more is decided same = record {
    each = each_more is;
    held = subst (All (IsOfLimit m limit)) (sym same) all.held;
    count =
        let before = all.count in
        let after = count_more false decided in
        ap length same ∙ omega (arith, before, after);
  }

  -- one that is left has one
  pub left_more : (h : Held) → IsAnswer m limit order b (answer_of a)
      → is_unanswered (answer_of a) ≡ true → IsOfLimit m limit h
      → new.held.items ≡ old.held.items ++ h ∷ []
      → AreAnswered m limit order (blocks ++ b ∷ []) new
  left_more h is left of_limit one = record {
    each = each_more is;
    held = subst (All (IsOfLimit m limit)) (sym one)
        (All-append (IsOfLimit m limit) old.held.items (h ∷ []) all.held
        (All-cons (IsOfLimit m limit) h [] of_limit (All-nil (IsOfLimit m limit))));
    count =
        let before = all.count in
        let after = count_more true left in
        let size = length-append old.held.items (h ∷ []) in
        ap length one ∙ omega (arith, before, after, size);
  }
