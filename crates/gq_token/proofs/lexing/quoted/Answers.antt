use Rattle.std.proofs.Common.{refl, append_assoc, ◌≡◌, ◌++◌, ◌∷◌, [], ◌∙◌, ℕ, List, sym, ap, subst, IsUtf8}
use Rattle.std.specs.Prelude.{string_bytes}
use Rattle.std.proofs.lemmas.Str.{encode_ascii}
use Rattle.std.proofs.lemmas.Str.Pattern.{split_parts, strip_prefix_char}
use Rattle.gq_token.specs.Lexing.{quoted}
use Rattle.gq_token.proofs.Quotes.{with_front, never_closed, closed, doubled, more_front, utf8_behind}
use Rattle.gq_token.proofs.lexing.quoted.Goals as goal

pub returns-in-None : goal.returns-in-None
returns-in-None c =
    let parts = rw c.in-Some.is at (split_parts c.args.quote c.loop-piece.rest.now c.split_once.result c.split_once.ensures.cases c.requires) in
    let ends = rw c.in-None.is at (strip_prefix_char c.args.quote c.in-Some.after.now c.strip_prefix.result c.strip_prefix.ensures.cases c.requires) in
    let here : quoted c.args.quote c.loop-piece.rest.now ≡ _ = ap (quoted c.args.quote) parts.0 ∙ closed c.args.quote c.in-Some.piece.now c.in-Some.after.now parts.1 ends in
    sym c.loop-piece.invariant.told ∙ ap (with_front (string_bytes c.loop-piece.value)) here ∙ rw c.in_ok-push_str.ensures.bytes refl

pub loop-piece-preserved : goal.loop-piece-preserved
loop-piece-preserved c =
    let q = c.args.quote in
    let piece = c.in-Some.piece.now in
    let next = c.in-Some-strip_prefix.next.now in
    let parts = rw c.in-Some.is at (split_parts q c.loop-piece.rest.now c.split_once.result c.split_once.ensures.cases c.requires) in
    let more = rw c.in-Some-strip_prefix.is at (strip_prefix_char q c.in-Some.after.now c.strip_prefix.result c.strip_prefix.ensures.cases c.requires) in
    let whole : c.loop-piece.rest.now ≡ piece ++ (q ∷ q ∷ next) = parts.0 ∙ ap (λ (l : List ℕ). piece ++ (q ∷ l)) more in
    let here : quoted q c.loop-piece.rest.now ≡ with_front (piece ++ (q ∷ [])) (quoted q next) = ap (quoted q) whole ∙ doubled q piece next parts.1 in
    let v = string_bytes c.loop-piece.value in
    let pushed : string_bytes c.push.new.self ≡ v ++ (piece ++ (q ∷ [])) = c.in_ok-push-in-Some-strip_prefix.ensures.bytes ∙ ap (λ (l : List ℕ). string_bytes c.push_str.new.self ++ l) (encode_ascii q c.requires) ∙ ap (λ (l : List ℕ). l ++ (q ∷ [])) c.in_ok-push_str.ensures.bytes ∙ append_assoc v piece (q ∷ []) in
    record {
      utf8 = utf8_behind q [] next c.requires (subst IsUtf8 more (utf8_behind q piece c.in-Some.after.now c.requires (subst IsUtf8 parts.0 c.loop-piece.invariant.utf8)));
      told = ap (λ (f : List ℕ). with_front f (quoted q next)) pushed ∙ sym (more_front v (piece ++ (q ∷ [])) (quoted q next)) ∙ ap (with_front v) (sym here) ∙ c.loop-piece.invariant.told;
    }

pub returns : goal.returns
returns c =
    let none = rw c.in_default.is at (split_parts c.args.quote c.loop-piece.rest.now c.split_once.result c.split_once.ensures.cases c.requires) in
    sym c.loop-piece.invariant.told ∙ ap (with_front (string_bytes c.loop-piece.value)) (never_closed c.args.quote c.loop-piece.rest.now none)
