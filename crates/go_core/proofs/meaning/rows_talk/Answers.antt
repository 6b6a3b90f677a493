use Rattle.std.proofs.Common.{refl}
use Rattle.std.specs.Prelude.{◌≡◌, [], ◌∷◌, codes, Some}
use Rattle.std.specs.Fmt.{digits}
use Rattle.go_core.specs.Goroutine.{exit, fatal}
use Rattle.go_core.specs.MeaningWords.{outcome, prints, ends, panics_with}
use Rattle.go_core.specs.RowsTalk.{receive_waits, send_waits, second_first, played_so, buffered, full_buffer, send_on_closed, closed_twice, closed_nil, receive_from_nil, closed_under_a_send, closed_under_a_receive, main_ends, go_of_nil, two_ready, one_ready, none_ready, about_to_send, waiting_select, second_way, select_sends, no_case, gates, taken_twice, handed_over}
use Rattle.go_core.proofs.meaning.rows_talk.Goals as goal

sender_finds_a_receiver_holds : outcome receive_waits [] ≡ prints (codes "5\n")
unfolding digits
sender_finds_a_receiver_holds = refl

both_go_on_holds : played_so receive_waits second_first [] ≡ prints (codes "sent 5\n5\n")
unfolding digits
both_go_on_holds = refl

receiver_finds_a_sender_holds : played_so send_waits second_first [] ≡ prints (codes "5 true\nsent\n")
unfolding digits
receiver_finds_a_sender_holds = refl

main_goes_on_first_holds : outcome send_waits [] ≡ prints (codes "sent\n")
unfolding digits
main_goes_on_first_holds = refl

buffers_hold_holds : outcome buffered [] ≡ prints (codes "2 2 5 1\n6 true\n0 false\n")
unfolding digits
buffers_hold_holds = refl

full_buffer_waits_holds : outcome full_buffer [] ≡ ends [] (fatal (codes "all goroutines are asleep - deadlock!"))
unfolding digits
full_buffer_waits_holds = refl

send_on_closed_panics_holds : outcome send_on_closed [] ≡ panics_with [] (codes "send on closed channel")
unfolding digits
send_on_closed_panics_holds = refl

closing_twice_panics_holds : outcome closed_twice [] ≡ panics_with [] (codes "close of closed channel")
unfolding digits
closing_twice_panics_holds = refl

closing_nil_panics_holds : outcome closed_nil [] ≡ panics_with [] (codes "close of nil channel")
unfolding digits
closing_nil_panics_holds = refl

nil_is_never_ready_holds : outcome receive_from_nil [] ≡ ends [] (fatal (codes "all goroutines are asleep - deadlock!"))
unfolding digits
nil_is_never_ready_holds = refl

waiting_send_panics_holds : played_so closed_under_a_send second_first [] ≡ panics_with [] (codes "send on closed channel")
unfolding digits
waiting_send_panics_holds = refl

waiting_receive_gets_zero_holds : played_so closed_under_a_receive second_first [] ≡ prints (codes "0 false\n")
unfolding digits
waiting_receive_gets_zero_holds = refl

main_waits_for_nobody_holds : outcome main_ends [] ≡ prints (codes "end\n")
unfolding digits
main_waits_for_nobody_holds = refl

go_of_nil_panics_holds : outcome go_of_nil [] ≡ panics_with [] (codes "runtime error: invalid memory address or nil pointer dereference")
unfolding digits
go_of_nil_panics_holds = refl

first_by_number_holds : outcome two_ready [] ≡ Some (record { printed = codes "a 1\n"; taken = 1; end = exit 0 })
unfolding digits
first_by_number_holds = refl

second_by_number_holds : outcome two_ready (1 ∷ []) ≡ Some (record { printed = codes "b 2\n"; taken = 1; end = exit 0 })
unfolding digits
second_by_number_holds = refl

number_modulo_the_count_holds : outcome two_ready (4 ∷ []) ≡ Some (record { printed = codes "a 1\n"; taken = 1; end = exit 0 })
unfolding digits
number_modulo_the_count_holds = refl

one_takes_no_number_holds : outcome one_ready (1 ∷ []) ≡ prints (codes "2 true\n")
unfolding digits
one_takes_no_number_holds = refl

none_takes_default_holds : outcome none_ready [] ≡ prints (codes "default\n")
unfolding digits
none_takes_default_holds = refl

about_is_no_partner_holds : outcome about_to_send [] ≡ prints (codes "default\n")
unfolding digits
about_is_no_partner_holds = refl

waiting_one_is_a_partner_holds : played_so about_to_send second_first [] ≡ prints (codes "sent 5\nreceived\n")
unfolding digits
waiting_one_is_a_partner_holds = refl

waiting_select_takes_no_number_holds : played_so waiting_select second_way (1 ∷ []) ≡ prints (codes "b 5\n")
unfolding digits
waiting_select_takes_no_number_holds = refl

select_finds_a_receiver_holds : played_so select_sends second_first [] ≡ prints (codes "7 true\nsent\n")
unfolding digits
select_finds_a_receiver_holds = refl

select_without_cases_waits_holds : outcome no_case [] ≡ ends [] (fatal (codes "all goroutines are asleep - deadlock!"))
unfolding digits
select_without_cases_waits_holds = refl

gate_counts_holds : outcome gates [] ≡ prints (codes "1 0\n2147483647 -2147483648\n")
unfolding digits
gate_counts_holds = refl

second_take_waits_holds : outcome taken_twice [] ≡ ends [] (fatal (codes "all goroutines are asleep - deadlock!"))
unfolding digits
second_take_waits_holds = refl

gate_is_handed_over_holds : played_so handed_over second_first [] ≡ prints (codes "taken\nmain 0\nend\n")
unfolding digits
gate_is_handed_over_holds = refl

pub returns : goal.returns
returns c = record {
  rows = record {
    sender_finds_a_receiver = sender_finds_a_receiver_holds;
    both_go_on = both_go_on_holds;
    receiver_finds_a_sender = receiver_finds_a_sender_holds;
    main_goes_on_first = main_goes_on_first_holds;
    buffers_hold = buffers_hold_holds;
    full_buffer_waits = full_buffer_waits_holds;
    send_on_closed_panics = send_on_closed_panics_holds;
    closing_twice_panics = closing_twice_panics_holds;
    closing_nil_panics = closing_nil_panics_holds;
    nil_is_never_ready = nil_is_never_ready_holds;
    waiting_send_panics = waiting_send_panics_holds;
    waiting_receive_gets_zero = waiting_receive_gets_zero_holds;
    main_waits_for_nobody = main_waits_for_nobody_holds;
    go_of_nil_panics = go_of_nil_panics_holds;
    first_by_number = first_by_number_holds;
    second_by_number = second_by_number_holds;
    number_modulo_the_count = number_modulo_the_count_holds;
    one_takes_no_number = one_takes_no_number_holds;
    none_takes_default = none_takes_default_holds;
    about_is_no_partner = about_is_no_partner_holds;
    waiting_one_is_a_partner = waiting_one_is_a_partner_holds;
    waiting_select_takes_no_number = waiting_select_takes_no_number_holds;
    select_finds_a_receiver = select_finds_a_receiver_holds;
    select_without_cases_waits = select_without_cases_waits_holds;
    gate_counts = gate_counts_holds;
    second_take_waits = second_take_waits_holds;
    gate_is_handed_over = gate_is_handed_over_holds;
  };
}
