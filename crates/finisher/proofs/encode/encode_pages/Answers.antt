use Rattle.std.proofs.Common.{◌≡◌, ◌-◌, ◌+◌, ◌*◌, ◌≤◌, length}
use Rattle.std.proofs.lemmas.List.Edits.{sets}
use Rattle.finisher.specs.Steps.{bytes_from}
use Rattle.finisher.proofs.encode.encode_pages.Goals as goal
use mathlib.Core.Path.{ap, ◌∙◌}
use lib.ListN.{take, drop, length-drop}
use lib.Seq.{length-take-le}
use native.Mathlib.Omega.{arith}
use Rattle.finisher.proofs.EncodeLaws.{encoded_none, encoded_next, page_fits, page_encoded}

pub loop-j-init : goal.loop-j-init
loop-j-init c = encoded_none _ _ _ _ (omega arith)

pub loop-j-preserved : goal.loop-j-preserved
loop-j-preserved c =
    let size = c.bytes-size.result in
    let is = c.bytes-size.ensures.bytes ∙ c.page_size.ensures in
    let at = size * (c.loop-j.j - c.args.first) in
    let part : at + size - at ≡ size = omega arith in
    let fit : at + size ≤ length c.loop-j.buffer =
    omega (arith, page_fits size c.args.first c.page_count-j-end.result c.loop-j.j (length c.loop-j.buffer) c.loop-j.auto.j c.loop-j-test.true (rw (is, c.page_count-j-end.ensures, c.loop-j.auto.buffer) c.requires.1)) in
    let room : length (take (at + size - at) (drop at c.loop-j.buffer)) ≡ size =
    rw part (length-take-le size (drop at c.loop-j.buffer) (omega (arith, length-drop at c.loop-j.buffer, fit))) in
    let page = page_encoded c.args.list.now.list c.loop-j.j _ (rw is at c.bytes-size.ensures.size) (room ∙ is) c.entries_on.ensures.few c.previous.ensures c.entries_on.ensures.they c.encode_free_list_page.ensures in
    rw part (encoded_next c.args.list.now.page_size _ _ _ _ _ _ c.loop-j.auto.j c.loop-j.invariant (rw is) is fit (c.encode_free_list_page.auto.page ∙ room) page)

pub returns : goal.returns
returns c =
    let e : c.loop-j.j ≡ length c.args.list.now.list.pages = omega arith in
    c.loop-j.invariant.written ∙ ap (λ k. sets c.args.buffer.now 0 (bytes_from c.args.list.now.page_size c.args.list.now.list c.args.first (k - c.args.first))) e
