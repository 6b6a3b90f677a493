mod Forms
mod Printed
mod Whole
