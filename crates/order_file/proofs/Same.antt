-- What is written tells what wrote it.
use Rattle.std.proofs.Common.{◌≡◌, ℕ, ◌^◌, ◌<◌, cond, eqb, List, [], ◌∷◌, ◌++◌, get_or, decimal, sym, refl, ap, ◌∙◌, arith}
use Rattle.std.specs.Str.Parse.{digits_value}
use Rattle.std.proofs.lemmas.Fmt.{digits_value-decimal}
use Rattle.std.proofs.lemmas.List.{append_cancel_left}
use Rattle.market.specs.declared.types.Side.{Side}
use Rattle.market.specs.declared.types.Side.TheVariants.{Buy, Sell}
use Rattle.market.specs.declared.types.Kind.{Kind}
use Rattle.market.specs.declared.types.Kind.TheVariants.{Limit, BookOnly, Immediate, Sweep}
use Rattle.market.specs.declared.types.Terms.{Terms}
use Rattle.market.specs.Written.{side_word, kind_word}
use Rattle.order_file.specs.Instructions.{texts, written, Fit}
use Rattle.order_file.specs.Files.{names, lines_of, Fits, OneLineEach, OneFileEach}
use Rattle.order_file.specs.declared.instructions.Instruction.{Instruction}
use Rattle.order_file.specs.declared.instructions.Instruction.TheVariants.{Enter, Replace, Cut, Cancel, Reply, Quote, Close, Expire}
use Rattle.order_file.specs.declared.instructions.Verb.{Verb}
use Rattle.order_file.specs.declared.instructions.Verb.TheVariants.{Enter as Enter', Replace as Replace', Cut as Cut', Cancel as Cancel', Reply as Reply', Quote as Quote', Close as Close', Expire as Expire'}
use Rattle.order_file.proofs.Numbers.{own}
use Rattle.order_file.proofs.Strays.{back, cut_line}
use Rattle.order_file.proofs.Moves.{one_way, single}
use Rattle.order_file.proofs.Texts.{line_free, nothing}

valued : (n : ℕ) → n < 2 ^ 32 → digits_value 10 (decimal n) ≡ n
valued n h = digits_value-decimal own n (omega arith)

abbrev side_back : List ℕ → Side
side_back w = cond (eqb (get_or w 0 0) 66) Buy Sell

side_same : (s : Side) → side_back (side_word s) ≡ s
side_same Buy = refl
side_same Sell = refl

abbrev kind_back : List ℕ → Kind
kind_back w = cond (eqb (get_or w 0 0) 76) Limit (cond (eqb (get_or w 0 0) 66) BookOnly (cond (eqb (get_or w 0 0) 73) Immediate Sweep))

kind_same : (k : Kind) → kind_back (kind_word k) ≡ k
kind_same Limit = refl
kind_same BookOnly = refl
kind_same Immediate = refl
kind_same Sweep = refl

abbrev num : List (List ℕ) → ℕ → ℕ
num ps k = digits_value 10 (get_or ps k [])

abbrev terms_back : List (List ℕ) → Terms
terms_back ps = record { price = num ps 2; size = num ps 3; show = num ps 4; kind = kind_back (get_or ps 5 []); user = num ps 6 }

-- the instruction that fields of a verb's line tell of
abbrev instruction_by_verb : Verb → List (List ℕ) → Instruction
instruction_by_verb Enter' ps = Enter (side_back (get_or ps 1 [])) (terms_back ps)
instruction_by_verb Replace' ps = Replace (terms_back ps) (num ps 7)
instruction_by_verb Cut' ps = Cut (num ps 3) (num ps 6) (num ps 7)
instruction_by_verb Cancel' ps = Cancel (num ps 6) (num ps 7)
instruction_by_verb Reply' ps = Reply (num ps 3) (num ps 7)
instruction_by_verb Quote' ps = Quote (side_back (get_or ps 1 [])) (record { venue = num ps 8; price = num ps 2; size = num ps 3 })
instruction_by_verb Close' ps = Close
instruction_by_verb Expire' ps = Expire

abbrev told_by : List (List ℕ) → Instruction
told_by ps = instruction_by_verb (back (get_or ps 0 [])) ps

told : (c : Instruction) → Fit c → told_by (texts c) ≡ c
told (Enter s t) h = rw (side_same s, kind_same t.kind, valued t.price h.0, valued t.size h.1.0, valued t.show h.1.1.0, valued t.user h.1.1.1.0)
told (Replace t n) h = rw (kind_same t.kind, valued t.price h.0, valued t.size h.1.0, valued t.show h.1.1.0, valued t.user h.1.1.1.0, valued n h.1.1.1.1.0)
told (Cut z u n) h = rw (valued z h.0, valued u h.1.0, valued n h.1.1.0)
told (Cancel u n) h = rw (valued u h.0, valued n h.1.0)
told (Reply z n) h = rw (valued z h.0, valued n h.1.0)
told (Quote s q) h = rw (side_same s, valued q.price h.0, valued q.size h.1.0, valued q.venue h.1.1.0)
told Close h = refl
told Expire h = refl

pub one_line_each : OneLineEach
one_line_each c d h g e = sym (told c h) ∙ ap told_by (sym (cut_line (written c) c h refl) ∙ cut_line (written c) d g e) ∙ told d g

same_lines : (cs ds : List Instruction) → Fits cs → Fits ds → lines_of cs ≡ lines_of ds → cs ≡ ds
same_lines [] [] h g e = refl
same_lines [] (d ∷ ds) h g e = absurd (nothing (written d) (lines_of ds) (sym e))
same_lines (c ∷ cs) [] h g e = absurd (nothing (written c) (lines_of cs) e)
same_lines (c ∷ cs) (d ∷ ds) h g e =
    let r = one_way (written c) (written d) (lines_of cs) (lines_of ds) (line_free c h.0) (line_free d g.0) (sym (single (written c) (lines_of cs)) ∙ e ∙ single (written d) (lines_of ds)) in
    let a : c ≡ d = one_line_each c d h.0 g.0 r.0 in
    let b : cs ≡ ds = same_lines cs ds h.1 g.1 r.1 in cc

pub one_file_each : OneFileEach
one_file_each cs ds h g e = same_lines cs ds h g (append_cancel_left (names ++ 10 ∷ []) (lines_of cs) (lines_of ds) e)
